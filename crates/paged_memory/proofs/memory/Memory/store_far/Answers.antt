use Rattle.std.specs.Prelude.{length}
use Rattle.std.proofs.Common.{◌≡◌, ◌∙◌, ap, arith, take, length-take-le}
use Rattle.mx_base.specs.Memory.{with_list}
use Rattle.paged_memory.specs.Paged.{bytes_of}
use Rattle.paged_memory.proofs.Numbers.{with_number_bytes, width_most}
use Rattle.paged_memory.proofs.Answered.{writes_store}
use Rattle.paged_memory.proofs.memory.Memory.store_far.Goals as goal

pub returns-clause-answer : goal.returns-clause-answer
returns-clause-answer c =
    let most = width_most c.args.n c.requires in
    let eight : length c.to_le_bytes-bytes.result ≡ 8 = ap length c.to_le_bytes-bytes.ensures in
    let long : length (take c.args.n c.to_le_bytes-bytes.result) ≡ c.args.n = length-take-le c.args.n c.to_le_bytes-bytes.result (omega (arith, most, eight)) in
    writes_store c.args.n c.args.a c.args.v (take c.args.n c.to_le_bytes-bytes.result) c.args.self.now c.write_far.new.self c.write_far.result long
    (ap (λ bs. with_list (bytes_of c.args.self.now) c.args.a (take c.args.n bs)) c.to_le_bytes-bytes.ensures ∙ with_number_bytes c.args.n (bytes_of c.args.self.now) c.args.a c.args.v c.requires)
    c.write_far.ensures.answer
