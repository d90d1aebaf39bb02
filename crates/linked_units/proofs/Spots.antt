-- Where the parts of instrumented code stand.
use Rattle.std.proofs.Common.{◌≡◌, ap, ◌∙◌, subst, ℕ, zero, suc, ◌+◌, ◌≤◌, Bool, true, false, if◌then◌else◌, Some, List, [], ◌∷◌, length, slice_get, arith}
use Rattle.std.specs.List.{fold}
use Rattle.std.specs.Option.{unwrap_or}
use Rattle.obj_file.specs.declared.object.Object.{Object}
use Rattle.obj_file.specs.declared.image.Image.{Image}
use Rattle.obj_linker.specs.declared.parts.Ends.{Ends}
use Rattle.obj_linker.specs.Placement.{aligned, starts, ends_after, spots_after, no_spot, plan_of, spot_of}
use Rattle.obj_linker.proofs.Standing.{aligned_up}
use Rattle.linked_laws.specs.Linked.{AreLinked}
use Rattle.linked_laws.proofs.Answer.{code_room}
use Rattle.linked_laws.proofs.Segments.{code_up, code_grows, chain}

-- between addresses
pub record Lies (from to at size : ℕ) : Type 0 where
  pub low : from ≤ at
  pub high : at + size ≤ to

raised : (a b c at size : ℕ) → a ≤ b → Lies b c at size → Lies a c at size
raised a b c at size le lies = (let low = lies.low in record { low = omega (arith, le, low); high = lies.high })

first_lies : (o : Object) (ends : Ends) (to : ℕ) → o.legacy ≡ false → (ends_after ends o).code ≤ to → Lies ends.code to (aligned 16 (if o.legacy then ends.legacy else ends.code)) (length o.code)
first_lies o ends to is high = by o.legacy is high
  where
    by : (b : Bool) → b ≡ false → (if b then ends.code else aligned 16 (if b then ends.legacy else ends.code) + length o.code) ≤ to → Lies ends.code to (aligned 16 (if b then ends.legacy else ends.code)) (length o.code)
    by true is high = cc
    by false is high = (let up = aligned_up ends.code in record { low = omega arith; high = high })

part_lies : (xs : List Object) (ends : Ends) (to : ℕ) → (fold ends_after ends xs).code ≤ to → (k : ℕ) (o : Object) → slice_get xs k ≡ Some o → o.legacy ≡ false
    → Lies ends.code to (unwrap_or (slice_get (spots_after ends xs) k) no_spot).code (length o.code)
part_lies [] ends to high k o h is = cc
part_lies (x ∷ xs) ends to high zero o h is =
    let same : x ≡ o = cc in
    let more = code_grows xs (ends_after ends x) in
    subst (λ (z : Object). Lies ends.code to (aligned 16 (if x.legacy then ends.legacy else ends.code)) (length z.code)) same
    (first_lies x ends to (ap (λ (z : Object). z.legacy) same ∙ is) (chain (ends_after ends x).code (fold ends_after (ends_after ends x) xs).code to more high))
part_lies (x ∷ xs) ends to high (suc k) o h is =
    raised ends.code (ends_after ends x).code to _ _ (code_up ends x) (part_lies xs (ends_after ends x) to high k o h is)

pub code_lies : (os : List Object) (v : Image) → AreLinked os v → (k : ℕ) (o : Object) → slice_get os k ≡ Some o → o.legacy ≡ false
    → Lies 0x0200_0000 0x1100_0000 (spot_of (plan_of os) k).code (length o.code)
code_lies os v l k o h is = part_lies os starts 0x1100_0000 (code_room os v l) k o h is
