-- Names of C and signatures are ASCII, so they are texts.
use Rattle.std.proofs.Common.{◌≡◌, ℕ, zero, suc, ◌+◌, ◌-◌, ◌<◌, Bool, true, false, List, [], ◌∷◌, length, get_or, take, drop, refl, ap, ◌∙◌, arith, inl, inr}
use Rattle.std.specs.Prelude.{◌&&◌, ◌||◌, ◌⊎◌, not, nat_eq, nat_le, slice_range, count_by}
use Rattle.std.specs.List.{list_all}
use Rattle.std.specs.Char.{is_ascii_digit}
use Rattle.std.specs.Str.{is_utf8, IsAscii}
use Rattle.std.proofs.lemmas.Bool.{cases_lt, eqb-true}
use Rattle.std.proofs.lemmas.Bool.Decides.{nat_tests}
use Rattle.std.proofs.lemmas.List.{get_or-drop, get_or-take, get_or_past}
use Rattle.std.proofs.lemmas.Str.{IsUtf8-from_ascii, is_utf8-from_IsUtf8}
use Rattle.obj_file.specs.declared.object.Symbol.{Symbol}
use Rattle.obj_file.specs.Names.{begins_name, is_word_byte, is_c_name, is_parameter, is_result, are_parameters, is_pointer_letter, is_function_sig, is_data_sig}
use Rattle.obj_file.specs.Object.{is_taken, is_free_name, suits}

both : (a b : Bool) → (a && b) ≡ true → (a ≡ true) × (b ≡ true)
both true b e = (refl, e)
both false b e = absurd cc

-- one of two tests
either : (a b : Bool) → (a || b) ≡ true → (a ≡ true) ⊎ (b ≡ true)
either true b e = inl refl
either false b e = inr e

all_ascii : (test : ℕ → Bool) → ((b : ℕ) → test b ≡ true → b < 128) → (bytes : List ℕ) → list_all test bytes ≡ true → IsAscii bytes
all_ascii test small [] e i = omega arith
all_ascii test small (b ∷ bytes) e zero = small b (both (test b) (list_all test bytes) e).0
all_ascii test small (b ∷ bytes) e (suc i) = all_ascii test small bytes (both (test b) (list_all test bytes) e).1 i

small_word : (b : ℕ) → is_word_byte b ≡ true → b < 128
small_word b e = grind (arith, nat_tests)

small_digit : (b : ℕ) → is_ascii_digit b ≡ true → b < 128
small_digit b e = grind (arith, nat_tests)

small_parameter : (b : ℕ) → is_parameter b ≡ true → b < 128
small_parameter b e = grind (arith, nat_tests)

small_result : (b : ℕ) → is_result b ≡ true → b < 128
small_result b e = grind (arith, nat_tests)

text_of_ascii : (bytes : List ℕ) → IsAscii bytes → is_utf8 bytes ≡ true
text_of_ascii bytes ascii = is_utf8-from_IsUtf8 bytes (IsUtf8-from_ascii bytes ascii)

pub free_names_are_text : (seen : List Symbol) (name : List ℕ) → is_free_name seen name ≡ true → is_utf8 name ≡ true
unfolding is_free_name is_c_name
free_names_are_text seen name e =
    let c = (both (begins_name (get_or name 0 0) && list_all is_word_byte name) (not (is_taken seen name)) e).0 in
    let all = (both (begins_name (get_or name 0 0)) (list_all is_word_byte name) c).1 in
    text_of_ascii name (all_ascii is_word_byte small_word name all)

-- the parts of a function's signature
record IsCall (sig : List ℕ) : Type 0 where
  first : get_or sig 0 0 ≡ 102
  result : is_result (get_or sig 1 0) ≡ true
  opens : get_or sig 2 0 ≡ 40
  closes : get_or sig (length sig - 1) 0 ≡ 41
  letters : list_all is_parameter (slice_range sig 3 (length sig - 1)) ≡ true

is_call : (sig : List ℕ) → is_function_sig sig ≡ true → IsCall sig
unfolding is_function_sig are_parameters
is_call sig e =
    let a = both (nat_le 4 (length sig) && nat_eq (get_or sig 0 0) 102 && is_result (get_or sig 1 0) && nat_eq (get_or sig 2 0) 40 && nat_eq (get_or sig (length sig - 1) 0) 41) (are_parameters (slice_range sig 3 (length sig - 1))) e in
    let b = both (nat_le 4 (length sig) && nat_eq (get_or sig 0 0) 102 && is_result (get_or sig 1 0) && nat_eq (get_or sig 2 0) 40) (nat_eq (get_or sig (length sig - 1) 0) 41) a.0 in
    let c = both (nat_le 4 (length sig) && nat_eq (get_or sig 0 0) 102 && is_result (get_or sig 1 0)) (nat_eq (get_or sig 2 0) 40) b.0 in
    let d = both (nat_le 4 (length sig) && nat_eq (get_or sig 0 0) 102) (is_result (get_or sig 1 0)) c.0 in
    let f = both (nat_le 4 (length sig)) (nat_eq (get_or sig 0 0) 102) d.0 in
    let params = slice_range sig 3 (length sig - 1) in
    let g = both (nat_le (length params) 6 && list_all is_parameter params) (nat_le (count_by is_pointer_letter params) 4) a.1 in
    let h = both (nat_le (length params) 6) (list_all is_parameter params) g.0 in
    record { first = eqb-true _ _ f.1; result = d.1; opens = eqb-true _ _ c.1; closes = eqb-true _ _ b.1; letters = h.1 }

call_ascii : (sig : List ℕ) → IsCall sig → IsAscii sig
call_ascii sig call zero = let a = call.first in omega arith
call_ascii sig call (suc zero) = small_result (get_or sig 1 0) call.result
call_ascii sig call (suc (suc zero)) = let a = call.opens in omega arith
call_ascii sig call (suc (suc (suc k))) =
    let inner = all_ascii is_parameter small_parameter (slice_range sig 3 (length sig - 1)) call.letters k in
    let closes = call.closes in
    elim (cases_lt (suc (suc (suc k))) (length sig - 1)) [
      | inl lt ↦
          let there : get_or (take (length sig - 1 - 3) (drop 3 sig)) k 0 ≡ get_or sig (3 + k) 0 = get_or-take (length sig - 1 - 3) (drop 3 sig) k 0 (omega arith) ∙ get_or-drop 3 sig k 0 in
          let same : 3 + k ≡ suc (suc (suc k)) = omega arith in
          let at : get_or sig (3 + k) 0 ≡ get_or sig (suc (suc (suc k))) 0 = ap (λ (n : ℕ). get_or sig n 0) same in
          omega arith
      | inr le ↦
          elim (cases_lt (suc (suc (suc k))) (length sig)) [
            | inl lt ↦
                let last : length sig - 1 ≡ suc (suc (suc k)) = omega arith in
                let at : get_or sig (length sig - 1) 0 ≡ get_or sig (suc (suc (suc k))) 0 = ap (λ (n : ℕ). get_or sig n 0) last in
                omega arith
            | inr past ↦ let none = get_or_past sig (suc (suc (suc k))) 0 past in omega arith
          ]
    ]

data_ascii : (sig : List ℕ) → is_data_sig sig ≡ true → IsAscii sig
unfolding is_data_sig
data_ascii [] e i = omega arith
data_ascii (b ∷ sig) e zero =
    let a = both (nat_le 2 (length (b ∷ sig)) && nat_eq b 100 && list_all is_ascii_digit sig) (nat_eq (length (b ∷ sig)) 2 || not (nat_eq (get_or (b ∷ sig) 1 0) 48)) e in
    let c = both (nat_le 2 (length (b ∷ sig)) && nat_eq b 100) (list_all is_ascii_digit sig) a.0 in
    let d = both (nat_le 2 (length (b ∷ sig))) (nat_eq b 100) c.0 in
    let first : b ≡ 100 = eqb-true b 100 d.1 in
    omega arith
data_ascii (b ∷ sig) e (suc i) =
    let a = both (nat_le 2 (length (b ∷ sig)) && nat_eq b 100 && list_all is_ascii_digit sig) (nat_eq (length (b ∷ sig)) 2 || not (nat_eq (get_or (b ∷ sig) 1 0) 48)) e in
    let c = both (nat_le 2 (length (b ∷ sig)) && nat_eq b 100) (list_all is_ascii_digit sig) a.0 in
    all_ascii is_ascii_digit small_digit sig c.1 i

empty_ascii : (sig : List ℕ) → nat_eq (length sig) 0 ≡ true → IsAscii sig
empty_ascii [] e i = omega arith
empty_ascii (b ∷ sig) e i = absurd (let n = eqb-true (length (b ∷ sig)) 0 e in omega arith)

pub signatures_are_text : (part : ℕ) (sig : List ℕ) → suits part sig ≡ true → is_utf8 sig ≡ true
unfolding suits
signatures_are_text part sig e =
    elim (either (nat_eq (length sig) 0 || (is_function_sig sig && not (nat_eq part 2))) (is_data_sig sig && not (nat_eq part 1)) e) [
      | inl l ↦
          elim (either (nat_eq (length sig) 0) (is_function_sig sig && not (nat_eq part 2)) l) [
            | inl none ↦ text_of_ascii sig (empty_ascii sig none)
            | inr call ↦ text_of_ascii sig (call_ascii sig (is_call sig (both (is_function_sig sig) (not (nat_eq part 2)) call).0))
          ]
      | inr held ↦ text_of_ascii sig (data_ascii sig (both (is_data_sig sig) (not (nat_eq part 1)) held).0)
    ]
