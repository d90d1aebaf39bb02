-- Filling fields leaves as many bytes.
use Rattle.std.specs.Prelude.{nat_le, if◌then◌else◌}
use Rattle.std.specs.List.{All, AllByRecursion}
use Rattle.std.proofs.Common.{◌≡◌, ℕ, zero, suc, ◌+◌, ◌≤◌, true, false, List, [], ◌∷◌, ◌++◌, length, take, drop, refl, arith, ◌∙◌, length-append, length-take-le, length-drop}
use Rattle.std.proofs.lemmas.Bool.Decides.{nat_tests}
use Rattle.obj_file.specs.declared.object.Fix.{Fix}
use Rattle.obj_linker.specs.Fixing.{with_field, field_bytes}
use Rattle.linked_code.specs.Filled.{filled, all_filled, fix_value}

pub each_all : {X : Type 0} (P : X → Type 0) (xs : List X) → AllByRecursion P xs → All P xs
each_all P [] each k d low = absurd (omega arith)
each_all P (x ∷ xs) each zero d low = each.0
each_all P (x ∷ xs) each (suc k) d low = each_all P xs each.1 k d (omega arith)

field_long : (bytes new : List ℕ) (at : ℕ) → length (with_field bytes at new) ≡ length bytes
field_long bytes new at = elim (nat_le (at + length new) (length bytes)) as
    (λ b. nat_le (at + length new) (length bytes) ≡ b → length (if b then take at bytes ++ new ++ drop (at + length new) bytes else bytes) ≡ length bytes) [
      | true ↦ λ e.
          let room : at + length new ≤ length bytes = grind (arith, nat_tests) in
          let front : length (take at bytes) ≡ at = length-take-le at bytes (omega (arith, room)) in
          let rest = length-drop (at + length new) bytes in
          let whole = length-append (take at bytes ++ new) (drop (at + length new) bytes) in
          let both = length-append (take at bytes) new in
          omega (arith, room, front, rest, whole, both)
      | false ↦ λ e. refl
    ] refl

pub all_long : (code : ℕ) (entry_at address : ℕ → ℕ) (fixes : List Fix) (bytes : List ℕ) → length (all_filled code entry_at address bytes fixes) ≡ length bytes
all_long code entry_at address [] bytes = refl
all_long code entry_at address (f ∷ fixes) bytes =
    all_long code entry_at address fixes (filled code entry_at address bytes f) ∙ field_long bytes (field_bytes f.form (fix_value code entry_at address f)) f.offset

pub same_middle : (before a b behind : List ℕ) → length (before ++ (a ++ behind)) ≡ length (before ++ (b ++ behind)) → length a ≡ length b
same_middle before a b behind same =
    let one = length-append before (a ++ behind) in
    let two = length-append before (b ++ behind) in
    let three = length-append a behind in
    let four = length-append b behind in
    omega (arith, same, one, two, three, four)
