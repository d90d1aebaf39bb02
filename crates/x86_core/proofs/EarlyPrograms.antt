-- Code is one row of instructions, which reading from its front finds.
use Rattle.std.proofs.Common.{◌≡◌, ℕ, zero, suc, ◌<◌, ◌≤◌, List, [], ◌∷◌, ◌++◌, length, take, drop, refl, sym, ap, ◌∙◌, subst, arith, append_assoc, length-append, length-drop}
use Rattle.std.specs.Prelude.{Result, Ok, Err, IsTrue}
use Rattle.std.specs.List.{All, flat_map}
use Rattle.std.proofs.lemmas.List.{take-append-drop, length-take-le}
use Rattle.std.proofs.lemmas.List.Elements.{All-drop}
use Rattle.std.proofs.Math.Seq.{take-append_seam, drop-append_seam}
use Rattle.x86_forms.specs.declared.instr.Instr.{Instr}
use Rattle.x86_forms.specs.EarlyCode.{IsCodeOf, program_run, started}
use Rattle.x86_forms.specs.Spelling.{spelling}
use Rattle.x86_forms.specs.Validity.{valid_of}
use Rattle.x86_forms.proofs.ShortCode.{spelling-short}
use Rattle.x86_decode.specs.declared.reader.Undecoded.{Undecoded}
use Rattle.x86_decode.specs.declared.states.State.TheVariants.{Start}
use Rattle.x86_decode.specs.Reading.{BeginsWith}
use Rattle.x86_decode.specs.Run.{run}
use Rattle.x86_decode.proofs.Again.{BeginsWith-run}
use Rattle.x86_decode.proofs.Decodes.{ok-says}
use Rattle.x86_core.specs.EarlyLaws.{EachRunsOnce}

-- ---- an answer of the decoder

abbrev pub ok : Instr → ℕ → Result (Instr × ℕ) Undecoded
ok i n = Ok (i, n)

abbrev pub instr_in : Instr → Result (Instr × ℕ) Undecoded → Instr
instr_in i (Ok x) = x.0
instr_in i (Err why) = i

abbrev pub size_in : Result (Instr × ℕ) Undecoded → ℕ
size_in (Ok x) = x.1
size_in (Err why) = 0

-- ---- the front of bytes

-- bytes with a spelling in front begin with it
pub begins : (code : List ℕ) (i : Instr) (after : List ℕ) → IsTrue (valid_of i) → code ≡ spelling i ++ after → BeginsWith code i (length (spelling i))
begins code i after valid e = record {
  within = let l : length code ≡ length (spelling i ++ after) = ap length e in omega (arith, length-append (spelling i) after);
  spells = record { valid = valid; bytes = ap (take (length (spelling i))) e ∙ take-append_seam (spelling i) after };
}

-- and bytes that begin with an instruction are its spelling and what follows
pub splits : (code : List ℕ) (i : Instr) (n : ℕ) → BeginsWith code i n → code ≡ spelling i ++ drop n code
splits code i n b = sym (take-append-drop n code) ∙ ap (λ (xs : List ℕ). xs ++ drop n code) b.spells.bytes

pub size_is : (code : List ℕ) (i : Instr) (n : ℕ) → BeginsWith code i n → length (spelling i) ≡ n
size_is code i n b = ap length (sym b.spells.bytes) ∙ length-take-le n code b.within

pub some_bytes : (code : List ℕ) (i : Instr) (n : ℕ) → BeginsWith code i n → 1 ≤ n
some_bytes code i n b = let s = (spelling-short i b.spells.valid).some in omega (arith, size_is code i n b)

first : (code : List ℕ) (i : Instr) (program : List Instr) → IsCodeOf code (i ∷ program) → BeginsWith code i (length (spelling i))
first code i program k = begins code i (flat_map spelling program ++ k.rest) k.valid.0 (k.bytes ∙ append_assoc (spelling i) (flat_map spelling program) k.rest)

others : (code : List ℕ) (i : Instr) (program : List Instr) → IsCodeOf code (i ∷ program) → IsCodeOf (drop (length (spelling i)) code) program
others code i program k = record {
  rest = k.rest;
  valid = k.valid.1;
  bytes = ap (drop (length (spelling i))) (k.bytes ∙ append_assoc (spelling i) (flat_map spelling program) k.rest) ∙ drop-append_seam (spelling i) (flat_map spelling program ++ k.rest);
  no_more = k.no_more;
}

-- the program of code that begins with an instruction begins with it
pub record Leads (code : List ℕ) (program : List Instr) (i : Instr) (n : ℕ) : Type 0 where
  pub left : List Instr
  pub is : program ≡ i ∷ left
  pub spells : IsCodeOf (drop n code) left

-- of two instructions with which bytes begin, both are the same
pub record OnlyFront (code : List ℕ) (i : Instr) (n : ℕ) : Type 0 where
  pub same : (j : Instr) (m : ℕ) → BeginsWith code j m → j ≡ i
  pub size : (j : Instr) (m : ℕ) → BeginsWith code j m → m ≡ n

pub leads : (code : List ℕ) (program : List Instr) (i : Instr) (n : ℕ) → BeginsWith code i n → OnlyFront code i n → IsCodeOf code program → Leads code program i n
leads code [] i n b only k = absurd (k.no_more i (drop n code) b.spells.valid (sym k.bytes ∙ splits code i n b))
leads code (j ∷ left) i n b only k = record {
  left = left;
  is = ap (λ (x : Instr). x ∷ left) (only.same j _ (first code j left k));
  spells = subst (λ (m : ℕ). IsCodeOf (drop m code) left) (only.size j _ (first code j left k)) (others code j left k);
}

-- nothing begins the code of no instruction
pub none_left : (code : List ℕ) (program : List Instr) → ((i : Instr) (n : ℕ) → BeginsWith code i n → ⊥) → IsCodeOf code program → program ≡ []
none_left code [] none k = refl
none_left code (i ∷ program) none k = absurd (none i _ (first code i program k))

-- ---- the law

only_front : (code : List ℕ) (i : Instr) (n : ℕ) → run code Start 0 ≡ Ok (i, n) → OnlyFront code i n
only_front code i n e = record {
  same = λ j m b. let f : ok j m ≡ ok i n = sym (BeginsWith-run code j m b) ∙ e in ap (instr_in j) f;
  size = λ j m b. let f : ok j m ≡ ok i n = sym (BeginsWith-run code j m b) ∙ e in ap size_in f;
}

record HasProgram (code : List ℕ) : Type 0 where
  program : List Instr
  is : IsCodeOf code program
  only : (other : List Instr) → IsCodeOf code other → other ≡ program

begins_program : (code : List ℕ) (i : Instr) (n : ℕ) → run code Start 0 ≡ Ok (i, n) → BeginsWith code i n → HasProgram (drop n code) → HasProgram code
begins_program code i n e b h = record {
  program = i ∷ h.program;
  is = record {
    rest = h.is.rest;
    valid = (b.spells.valid, h.is.valid);
    bytes = splits code i n b ∙ ap (λ (xs : List ℕ). spelling i ++ xs) h.is.bytes ∙ sym (append_assoc (spelling i) (flat_map spelling h.program) h.is.rest);
    no_more = h.is.no_more;
  };
  only = λ other k. let l = leads code other i n b (only_front code i n e) k in l.is ∙ ap (λ (xs : List Instr). i ∷ xs) (h.only l.left l.spells);
}

ends_program : (code : List ℕ) (why : Undecoded) → run code Start 0 ≡ Err why → HasProgram code
ends_program code why e = record {
  program = [];
  is = record { rest = code; valid = tt; bytes = refl; no_more = λ i after valid f. none i _ (begins code i after valid f) };
  only = λ other k. none_left code other none k;
}
  where
    none : (i : Instr) (n : ℕ) → BeginsWith code i n → ⊥
    none i n b = let f : ok i n ≡ Err why = sym (BeginsWith-run code i n b) ∙ e in cc

by_answer : (code : List ℕ) (answer : Result (Instr × ℕ) Undecoded) → run code Start 0 ≡ answer → All (λ b. b < 256) code → ((n : ℕ) → 1 ≤ n → n ≤ length code → HasProgram (drop n code)) → HasProgram code
by_answer code (Err why) e all later = ends_program code why e
by_answer code (Ok x) e all later =
    let b : BeginsWith code x.0 x.1 = ok-says code x.0 x.1 all e in
    begins_program code x.0 x.1 e b (later x.1 (some_bytes code x.0 x.1 b) b.within)

-- the fuel is more than the bytes
has_program : (fuel : ℕ) (code : List ℕ) → length code < fuel → All (λ b. b < 256) code → HasProgram code
has_program zero code l all = absurd (omega arith)
has_program (suc fuel) code l all = by_answer code (run code Start 0) refl all (λ n some within. has_program fuel (drop n code) (omega (arith, length-drop n code)) (All-drop (λ b. b < 256) n code all))

pub runs_once : EachRunsOnce
runs_once code size all =
    let h = has_program (suc (length code)) code (omega arith) all in
    record {
      run = program_run h.program (started size);
      is = record { program = h.program; spells = h.is; does = refl };
      only = λ other k. k.does ∙ ap (λ (p : List Instr). program_run p (started size)) (h.only k.program k.spells);
    }
