-- Bytes between others, and fields among them.
use Rattle.std.specs.Prelude.{ℤ, pos, negsuc, nat_le, if◌then◌else◌, IsTrue}
use Rattle.std.specs.List.{AllByRecursion, All}
use Rattle.std.specs.Int.{to_le_bytes, cast_unsigned, w32, w64}
use Rattle.std.proofs.Common.{◌≡◌, ℕ, suc, ◌+◌, ◌^◌, ◌/◌, ◌%◌, ◌≤◌, ◌<◌, true, List, [], ◌∷◌, ◌++◌, length, take, drop, refl, arith, ap, ◌∙◌, sym, append_assoc, length-append}
use Rattle.std.proofs.lemmas.Bool.Decides.{nat_tests}
use Rattle.std.proofs.lemmas.Grind.{common_steps}
use Rattle.std.proofs.lemmas.Int.{ints}
use Rattle.obj_file.specs.InTurn.{le}
use Rattle.x86_forms.specs.declared.instr.Instr.TheVariants.{MovImm, CallRel}
use Rattle.x86_forms.specs.Examples.{reg}
use Rattle.x86_forms.specs.Spelling.{spelling, low_bytes, prefix_bytes, rex_bytes, escape_bytes, operand_bytes, forces_rex, rex_bits, high_bits, rm_bytes, modrm, rm_high, is_low, rm_is_low}
use Rattle.obj_linker.specs.Fixing.{with_field, fits}

-- ---- lists

pub all_each : {X : Type 0} (P : X → Type 0) (xs : List X) → All P xs → AllByRecursion P xs
all_each P [] all = tt
all_each P (x ∷ xs) all = (all 0 x (omega arith), all_each P xs (λ k d low. all (suc k) d (omega arith)))

pub each_front : {X : Type 0} (P : X → Type 0) (xs ys : List X) → AllByRecursion P (xs ++ ys) → AllByRecursion P xs
each_front P [] ys all = tt
each_front P (x ∷ xs) ys all = (all.0, each_front P xs ys all.1)

pub each_behind : {X : Type 0} (P : X → Type 0) (xs ys : List X) → AllByRecursion P (xs ++ ys) → AllByRecursion P ys
each_behind P [] ys all = all
each_behind P (x ∷ xs) ys all = each_behind P xs ys all.1

take_front : (a b : List ℕ) → take (length a) (a ++ b) ≡ a
take_front [] b = refl
take_front (x ∷ a) b = ap (λ (l : List ℕ). x ∷ l) (take_front a b)

drop_front : (a b : List ℕ) → drop (length a) (a ++ b) ≡ b
drop_front [] b = refl
drop_front (x ∷ a) b = drop_front a b

-- ---- bytes in the place of as many others

pub in_place : (a old new b : List ℕ) (at : ℕ) → at ≡ length a → length new ≡ length old → with_field (a ++ (old ++ b)) at new ≡ a ++ (new ++ b)
in_place a old new b at there long =
    let end : at + length new ≡ length (a ++ old) = (λ i. there i + long i) ∙ sym (length-append a old) in
    let whole : length (a ++ (old ++ b)) ≡ length a + (length old + length b) = length-append a (old ++ b) ∙ ap (λ (n : ℕ). length a + n) (length-append old b) in
    let within : at + length new ≤ length (a ++ (old ++ b)) = omega (arith, there, long, whole) in
    let room : nat_le (at + length new) (length (a ++ (old ++ b))) ≡ true = grind (arith, nat_tests, within) in
    let front : take at (a ++ (old ++ b)) ≡ a = ap (λ (n : ℕ). take n (a ++ (old ++ b))) there ∙ take_front a (old ++ b) in
    let rest : drop (at + length new) (a ++ (old ++ b)) ≡ b = (λ i. drop (end i) (sym (append_assoc a old b) i)) ∙ drop_front (a ++ old) b in
    ap (λ c. if c then take at (a ++ (old ++ b)) ++ new ++ drop (at + length new) (a ++ (old ++ b)) else a ++ (old ++ b)) room
    ∙ (λ i. front i ++ new ++ rest i)
    ∙ append_assoc a new b

-- a piece with a field at its end, with others before and behind
pub beside : (before others head field behind end : List ℕ) → before ++ ((others ++ ((head ++ field) ++ behind)) ++ end) ≡ ((before ++ others) ++ head) ++ (field ++ (behind ++ end))
beside before others head field behind end =
    ap (λ (l : List ℕ). before ++ l) (append_assoc others ((head ++ field) ++ behind) end
    ∙ ap (λ (l : List ℕ). others ++ l) (append_assoc (head ++ field) behind end ∙ append_assoc head field (behind ++ end)))
    ∙ sym (append_assoc before others (head ++ (field ++ (behind ++ end))))
    ∙ sym (append_assoc (before ++ others) head (field ++ (behind ++ end)))

pub field_in_piece : (before others head old new behind end : List ℕ) (at : ℕ) → at ≡ length before + length others + length head → length new ≡ length old
    → with_field (before ++ ((others ++ ((head ++ old) ++ behind)) ++ end)) at new ≡ before ++ ((others ++ ((head ++ new) ++ behind)) ++ end)
field_in_piece before others head old new behind end at there long =
    let place : at ≡ length ((before ++ others) ++ head) = there ∙ sym (length-append (before ++ others) head ∙ ap (λ (n : ℕ). n + length head) (length-append before others)) in
    ap (λ (l : List ℕ). with_field l at new) (beside before others head old behind end)
    ∙ in_place ((before ++ others) ++ head) old new (behind ++ end) at place long
    ∙ sym (beside before others head new behind end)

-- ---- four bytes of a number

same_bytes : (u v : ℕ) → u ≡ v % 2 ^ 32 → le w32 u ≡ take 4 (to_le_bytes w64 v)
unfolding le
same_bytes u v is =
    let a : u % 256 ≡ v % 256 = omega (arith, is) in
    let b : u / 256 % 256 ≡ v / 256 % 256 = omega (arith, is) in
    let c : u / 65536 % 256 ≡ v / 65536 % 256 = omega (arith, is) in
    let d : u / 16777216 % 256 ≡ v / 16777216 % 256 = omega (arith, is) in
    λ i. a i ∷ b i ∷ c i ∷ d i ∷ []

same_residue : (z : ℤ) → IsTrue (fits 1 z) → cast_unsigned w32 z ≡ cast_unsigned w64 z % 2 ^ 32
same_residue (pos n) h = let few : n ≤ 0x7FFF_FFFF = grind (arith, nat_tests, common_steps) in grind (arith, ints, common_steps)
same_residue (negsuc n) h = let few : n ≤ 0x7FFF_FFFF = grind (arith, nat_tests, common_steps) in omega (arith, few)

pub four_low : (z : ℤ) → IsTrue (fits 1 z) → le w32 (cast_unsigned w32 z) ≡ low_bytes 4 z
unfolding low_bytes
four_low z h = same_bytes (cast_unsigned w32 z) (cast_unsigned w64 z) (same_residue z h)

-- ---- the two instructions that have fields

pub call_bytes : (z : ℤ) → spelling (CallRel true z) ≡ (0xF2 ∷ 0xE8 ∷ []) ++ low_bytes 4 z
unfolding prefix_bytes rex_bytes escape_bytes operand_bytes rex_bits high_bits forces_rex
call_bytes z = refl

-- the move of a number of 31 bits to rax
pub move_bytes : (n : ℕ) → n < 2 ^ 31 → spelling (MovImm 64 (reg 0) (pos n)) ≡ (0x48 ∷ 0xC7 ∷ 0xC0 ∷ []) ++ low_bytes 4 (pos n)
unfolding prefix_bytes rex_bytes escape_bytes operand_bytes rex_bits high_bits forces_rex rm_bytes modrm rm_high is_low rm_is_low
move_bytes n few = grind (arith, nat_tests, common_steps)
