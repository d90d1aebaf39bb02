use Rattle.std.specs.Prelude.{length}
use Rattle.std.specs.Int.{w64, from_le_bytes}
use Rattle.std.proofs.Common.{◌≡◌, ◌∙◌, ap, arith, ℕ, ◌≤◌, ◌-◌, take, drop, replicate, length-take-le, List, ◌++◌}
use Rattle.std.proofs.lemmas.List.{drop-replicate}
use Rattle.mx_base.specs.Memory.{list_at}
use Rattle.paged_memory.specs.Paged.{bytes_of}
use Rattle.paged_memory.specs.Answers.{read_answer}
use Rattle.paged_memory.proofs.Numbers.{number_of_list, width_most}
use Rattle.paged_memory.proofs.Answered.{load_read, load_done}
use Rattle.paged_memory.proofs.memory.Memory.load_far.Goals as goal

abbrev buffer : List ℕ
buffer = replicate 8 0

long : (n : ℕ) → n ≤ 8 → length (take n buffer) ≡ n
long n most = length-take-le n buffer most

pub returns-in-Err : goal.returns-in-Err
returns-in-Err c =
    load_read c.args.n (bytes_of c.args.self.now) c.args.a c.in-Err.stop (c.in-Err.ensures.answer ∙ ap (λ k. read_answer k c.args.a) (long c.args.n (width_most c.args.n c.requires)))

pub returns-in-Ok : goal.returns-in-Ok
returns-in-Ok c =
    let most = width_most c.args.n c.requires in
    let count = long c.args.n most in
    let first = c.in-Ok.ensures.done ∙ ap (λ k. list_at k (bytes_of c.args.self.now) c.args.a) count in
    let rest : drop c.args.n buffer ≡ replicate (8 - c.args.n) 0 = drop-replicate c.args.n 8 0 in
    load_done c.args.n (bytes_of c.args.self.now) c.args.a c.from_le_bytes.result (c.in-Ok.ensures.answer ∙ ap (λ k. read_answer k c.args.a) count)
    (c.from_le_bytes.ensures ∙ ap (λ (xs : List ℕ). from_le_bytes w64 xs) (λ i. first i ++ rest i) ∙ number_of_list c.args.n c.requires (bytes_of c.args.self.now) c.args.a (8 - c.args.n) (omega (arith, most)))
