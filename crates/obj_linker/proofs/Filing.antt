-- Files that an image tells, and registers of the functions that it knows.
use Rattle.std.proofs.Common.{◌≡◌, refl, sym, ap, ◌∙◌, subst, ℕ, suc, ◌+◌, ◌-◌, ◌<◌, ◌≤◌, nat_eq, nat_le, ◌&&◌, ◌||◌, Bool, true, false, true≢false, cond, if◌then◌else◌, Option, None, Some, List, [], ◌∷◌, length, take, get_or, slice_index, slice_range, count_by, arith, leb-true}
use Rattle.std.specs.List.{filter, list_all}
use Rattle.std.proofs.lemmas.List.{length-map}
use Rattle.std.proofs.lemmas.List.Sums.{length-filter, sum_by-take-le, sum_by-cons}
use Rattle.std.proofs.lemmas.List.Filters.{length-filter_more}
use Rattle.mx_base.specs.declared.numbers.IntKind.{IntKind}
use Rattle.mx_base.specs.declared.numbers.IntKind.TheVariants.{I8, U8, I16, U16, I32, U32, I64, U64}
use Rattle.call_sigs.specs.Signatures.{HasRegisters, signature_of, pointers, kinds_of_letters}
use Rattle.obj_file.specs.declared.object.Object.{Object}
use Rattle.obj_file.specs.Names.{is_function_sig, are_parameters, is_parameter, is_pointer_letter, is_result}
use Rattle.obj_linker.specs.Image.{has_file, files}
use Rattle.obj_linker.specs.Gating.{told_signature}

-- ---- files

-- files before an object's own are at most all files
pub few_files : (os : List Object) (k n : ℕ) → n ≡ length (files (take k os)) → count_by has_file os ≤ 65_536 → n ≤ 65_536
few_files os k n is few =
    let one = length-map (filter has_file (take k os)) (λ (o : Object). o.file) in
    let two = length-filter has_file (take k os) in
    let three = sum_by-take-le (λ (o : Object). cond (has_file o) 1 0) os k in
    omega arith

pub files_more : (os : List Object) (k : ℕ) (o : Object) (n m : ℕ) → k < length os → o ≡ get_or os k o → n ≡ length (files (take k os)) → m ≡ (if has_file o then 1 else 0)
    → n + m ≡ length (files (take (k + 1) os))
files_more os k o n m h at is adds =
    let one = length-map (filter has_file (take k os)) (λ (o : Object). o.file) in
    let two = length-map (filter has_file (take (k + 1) os)) (λ (o : Object). o.file) in
    let more = length-filter_more has_file os k o h in
    let own : m ≡ cond (has_file (get_or os k o)) 1 0 = adds ∙ ap (λ x. cond (has_file x) 1 0) at in
    omega arith

-- ---- signatures

both : (a b : Bool) → (a && b) ≡ true → (a ≡ true) × (b ≡ true)
both true true h = (refl, refl)
both true false h = absurd (true≢false (sym h))
both false true h = absurd (true≢false (sym h))
both false false h = absurd (true≢false (sym h))

at_most : (p : Bool) (m n : ℕ) → m ≤ n → m ≤ cond p 1 0 + n
at_most true m n h = omega arith
at_most false m n h = omega arith

-- a parameter's letter that is of no kind is `p`
counted : (a b c d e f g h p : Bool) → ((a || b || c || d || e || f || g || h) || p) ≡ true → (rest : List (Option IntKind)) (n : ℕ) → pointers rest ≤ n
    → pointers ((if a then Some I8 else if b then Some U8 else if c then Some I16 else if d then Some U16 else if e then Some I32 else if f then Some U32 else if g then Some I64 else if h then Some U64 else None) ∷ rest)
    ≤ cond p 1 0 + n
counted true b c d e f g h p is rest n few = at_most p (pointers rest) n few
counted false true c d e f g h p is rest n few = at_most p (pointers rest) n few
counted false false true d e f g h p is rest n few = at_most p (pointers rest) n few
counted false false false true e f g h p is rest n few = at_most p (pointers rest) n few
counted false false false false true f g h p is rest n few = at_most p (pointers rest) n few
counted false false false false false true g h p is rest n few = at_most p (pointers rest) n few
counted false false false false false false true h p is rest n few = at_most p (pointers rest) n few
counted false false false false false false false true p is rest n few = at_most p (pointers rest) n few
counted false false false false false false false false true is rest n few = omega arith
counted false false false false false false false false false is rest n few = absurd (true≢false (sym is))

few_pointers : (ps : List ℕ) → list_all is_parameter ps ≡ true → pointers (kinds_of_letters ps) ≤ count_by is_pointer_letter ps
few_pointers [] h = omega arith
few_pointers (b ∷ bs) h =
    let two = both (is_parameter b) (list_all is_parameter bs) h in
    subst (λ n. pointers (kinds_of_letters (b ∷ bs)) ≤ n) (sym (sum_by-cons (λ x. cond (is_pointer_letter x) 1 0) b bs))
    (counted (nat_eq b 99) (nat_eq b 67) (nat_eq b 104) (nat_eq b 72) (nat_eq b 105) (nat_eq b 73) (nat_eq b 108) (nat_eq b 76) (nat_eq b 112) two.0
    (kinds_of_letters bs) (count_by is_pointer_letter bs) (few_pointers bs two.1))

length_kinds : (ps : List ℕ) → length (kinds_of_letters ps) ≡ length ps
length_kinds [] = refl
length_kinds (b ∷ bs) = ap suc (length_kinds bs)

parameters_fit : (result : ℕ) (ps : List ℕ) → are_parameters ps ≡ true → HasRegisters (signature_of result ps)
unfolding are_parameters
parameters_fit result ps h =
    let a = both (nat_le (length ps) 6 && list_all is_parameter ps) (nat_le (count_by is_pointer_letter ps) 4) h in
    let b = both (nat_le (length ps) 6) (list_all is_parameter ps) a.0 in
    let few = leb-true (length ps) 6 b.0 in
    let pointed = leb-true (count_by is_pointer_letter ps) 4 a.1 in
    let kinds = length_kinds ps in
    let each = few_pointers ps b.1 in
    record { few = omega arith; pointed = omega arith }

parameters_of : (sig : List ℕ) → is_function_sig sig ≡ true → are_parameters (slice_range sig 3 (length sig - 1)) ≡ true
unfolding is_function_sig
parameters_of sig h =
    (both (nat_le 4 (length sig) && nat_eq (slice_index sig 0) 102 && is_result (slice_index sig 1) && nat_eq (slice_index sig 2) 40 && nat_eq (slice_index sig (length sig - 1)) 41)
    (are_parameters (slice_range sig 3 (length sig - 1))) h).1

pub registers_of : (sig : List ℕ) → is_function_sig sig ≡ true → HasRegisters (told_signature sig)
unfolding told_signature
registers_of sig h =
    subst (λ b. HasRegisters (if b then signature_of (slice_index sig 1) (slice_range sig 3 (length sig - 1)) else signature_of 118 [])) (sym h)
    (parameters_fit (slice_index sig 1) (slice_range sig 3 (length sig - 1)) (parameters_of sig h))
