-- The bytes of gates are those of their parts in a row.
use Rattle.std.specs.Prelude.{true, Option, None, Some, IsTrue}
use Rattle.std.specs.List.{list_all}
use Rattle.std.specs.Option.{option_map}
use Rattle.std.proofs.Common.{◌≡◌, ℕ, zero, suc, ◌+◌, ◌-◌, ◌≤◌, List, [], ◌∷◌, ◌++◌, length, take, drop, append_assoc, refl, arith, ap, ◌∙◌, sym, subst}
use Rattle.mx_base.specs.declared.numbers.IntKind.{IntKind}
use Rattle.x86_forms.specs.declared.instr.Instr.{Instr}
use Rattle.x86_forms.specs.Validity.{valid_of}
use Rattle.call_sigs.specs.Signatures.{Signature, result_of_kind, pointers, result_pointers}
use Rattle.call_gates.specs.Gates.{Code, size_of_code, instructions, spelled, bytes_of_code, is_sound, rax, rsp, copies, clear_all, only_instr, word_extension, if_any, extends_parameter, extend_parameters, extends_result, init_from, not_carrying, others, calls, jumps, returns, stub_keeps, stub_writes, stub_clears, stub_body_size, stub_gate, outer_keeps, outer_restores, outer_clears, outer_head, outer_gate}
use Rattle.call_gates.proofs.Sound.{sound_valid, sound_size, bytes_append}

-- ---- lists of instructions that are those of sound code

pub valid_as : (list : List Instr) (code : Code) → list ≡ instructions code → is_sound code ≡ true → IsTrue (list_all valid_of list)
valid_as list code e h = subst (λ (l : List Instr). IsTrue (list_all valid_of l)) (sym e) (sound_valid code h)

pub size_as : (list : List Instr) (code : Code) → list ≡ instructions code → is_sound code ≡ true → length (spelled list) ≡ size_of_code code
size_as list code e h = ap (λ (l : List Instr). length (spelled l)) e ∙ sound_size code h

pub bytes_as : (list : List Instr) (code : Code) → list ≡ instructions code → spelled list ≡ bytes_of_code code
bytes_as list code e = ap spelled e

-- ---- what makes a word one of 64 bits

pub one_of : (o : Option (Instr × ℕ)) (i : Instr) → Some i ≡ option_map only_instr o → (i ∷ []) ≡ instructions (if_any o)
one_of None i e = absurd cc
one_of (Some x) i e = let f : i ≡ x.0 = cc in ap (λ (j : Instr). j ∷ []) f

pub none_of : (o : Option (Instr × ℕ)) → ◌≡◌ {A = Option Instr} None (option_map only_instr o) → bytes_of_code (if_any o) ≡ []
none_of None e = refl
none_of (Some x) e = absurd cc

-- ---- parts in a row

three : (a b c : List ℕ) → a ++ (b ++ c) ≡ (a ++ b) ++ c
three a b c = sym (append_assoc a b c)

pub stub_body_bytes : (sig : Signature) → bytes_of_code (stub_writes ++ stub_clears sig)
    ≡ (((bytes_of_code (stub_writes ++ copies rsp rax ∷ []) ++ bytes_of_code (extend_parameters 0 sig.parameters)) ++ bytes_of_code (clear_all (0 ∷ 10 ∷ 11 ∷ []))) ++ bytes_of_code (clear_all (not_carrying (length sig.parameters)))) ++ bytes_of_code (init_from 0 (pointers sig.parameters))
stub_body_bytes sig =
    let w : Code = stub_writes ++ copies rsp rax ∷ [] in
    let p : Code = extend_parameters 0 sig.parameters in
    let s : Code = clear_all (0 ∷ 10 ∷ 11 ∷ []) in
    let r : Code = clear_all (not_carrying (length sig.parameters)) in
    let i : Code = init_from 0 (pointers sig.parameters) in
    bytes_append w (p ++ ((s ++ r) ++ i))
    ∙ ap (λ (x : List ℕ). bytes_of_code w ++ x) (bytes_append p ((s ++ r) ++ i) ∙ ap (λ (x : List ℕ). bytes_of_code p ++ x) (bytes_append (s ++ r) i ∙ ap (λ (x : List ℕ). x ++ bytes_of_code i) (bytes_append s r)))
    ∙ three (bytes_of_code w) (bytes_of_code p) ((bytes_of_code s ++ bytes_of_code r) ++ bytes_of_code i)
    ∙ three (bytes_of_code w ++ bytes_of_code p) (bytes_of_code s ++ bytes_of_code r) (bytes_of_code i)
    ∙ ap (λ (x : List ℕ). x ++ bytes_of_code i) (three (bytes_of_code w ++ bytes_of_code p) (bytes_of_code s) (bytes_of_code r))

pub stub_bytes : (sig : Signature) (target at : ℕ) → bytes_of_code (stub_gate sig target at)
    ≡ (((bytes_of_code (stub_keeps (at + stub_body_size sig)) ++ bytes_of_code (stub_writes ++ stub_clears sig)) ++ bytes_of_code (jumps target (at + stub_body_size sig) ∷ [])) ++ bytes_of_code (extends_result sig.result)) ++ bytes_of_code (returns ∷ [])
stub_bytes sig target at =
    let tail : ℕ = at + stub_body_size sig in
    let k : Code = stub_keeps tail in
    let w : Code = stub_writes in
    let c : Code = stub_clears sig in
    let j : Code = jumps target tail ∷ [] in
    let e : Code = extends_result sig.result in
    let r : Code = returns ∷ [] in
    let body : bytes_of_code w ++ bytes_of_code c ≡ bytes_of_code (w ++ c) = sym (bytes_append w c) in
    bytes_append k (w ++ (c ++ (j ++ (e ++ r))))
    ∙ ap (λ (x : List ℕ). bytes_of_code k ++ x) (bytes_append w (c ++ (j ++ (e ++ r))) ∙ ap (λ (x : List ℕ). bytes_of_code w ++ x) (bytes_append c (j ++ (e ++ r)) ∙ ap (λ (x : List ℕ). bytes_of_code c ++ x) (bytes_append j (e ++ r) ∙ ap (λ (x : List ℕ). bytes_of_code j ++ x) (bytes_append e r))))
    ∙ ap (λ (x : List ℕ). bytes_of_code k ++ x) (three (bytes_of_code w) (bytes_of_code c) (bytes_of_code j ++ (bytes_of_code e ++ bytes_of_code r)) ∙ ap (λ (x : List ℕ). x ++ (bytes_of_code j ++ (bytes_of_code e ++ bytes_of_code r))) body)
    ∙ three (bytes_of_code k) (bytes_of_code (w ++ c)) (bytes_of_code j ++ (bytes_of_code e ++ bytes_of_code r))
    ∙ three (bytes_of_code k ++ bytes_of_code (w ++ c)) (bytes_of_code j) (bytes_of_code e ++ bytes_of_code r)
    ∙ three ((bytes_of_code k ++ bytes_of_code (w ++ c)) ++ bytes_of_code j) (bytes_of_code e) (bytes_of_code r)

pub clears_bytes : (sig : Signature) (old : List ℕ) → old ++ bytes_of_code (outer_clears sig) ≡ ((old ++ bytes_of_code (extends_result sig.result)) ++ bytes_of_code (clear_all others)) ++ bytes_of_code (init_from 1 (result_pointers sig.result))
clears_bytes sig old =
    let e : Code = extends_result sig.result in
    let o : Code = clear_all others in
    let i : Code = init_from 1 (result_pointers sig.result) in
    ap (λ (x : List ℕ). old ++ x) (bytes_append e (o ++ i) ∙ ap (λ (x : List ℕ). bytes_of_code e ++ x) (bytes_append o i))
    ∙ three old (bytes_of_code e) (bytes_of_code o ++ bytes_of_code i)
    ∙ three (old ++ bytes_of_code e) (bytes_of_code o) (bytes_of_code i)

pub head_bytes : (sig : Signature) → bytes_of_code (outer_head sig) ≡ bytes_of_code outer_keeps ++ bytes_of_code (extend_parameters 0 sig.parameters)
head_bytes sig = bytes_append outer_keeps (extend_parameters 0 sig.parameters)

pub outer_bytes : (sig : Signature) (inner at : ℕ) → bytes_of_code (outer_gate sig inner at)
    ≡ ((((bytes_of_code outer_keeps ++ bytes_of_code (extend_parameters 0 sig.parameters)) ++ bytes_of_code (calls inner (at + size_of_code (outer_head sig) + 6) ∷ [])) ++ bytes_of_code outer_restores) ++ bytes_of_code (outer_clears sig)) ++ bytes_of_code (returns ∷ [])
outer_bytes sig inner at =
    let h : Code = outer_head sig in
    let c : Code = calls inner (at + size_of_code (outer_head sig) + 6) ∷ [] in
    let r : Code = outer_restores in
    let o : Code = outer_clears sig in
    let e : Code = returns ∷ [] in
    bytes_append h (c ++ (r ++ (o ++ e)))
    ∙ ap (λ (x : List ℕ). bytes_of_code h ++ x) (bytes_append c (r ++ (o ++ e)) ∙ ap (λ (x : List ℕ). bytes_of_code c ++ x) (bytes_append r (o ++ e) ∙ ap (λ (x : List ℕ). bytes_of_code r ++ x) (bytes_append o e)))
    ∙ three (bytes_of_code h) (bytes_of_code c) (bytes_of_code r ++ (bytes_of_code o ++ bytes_of_code e))
    ∙ three (bytes_of_code h ++ bytes_of_code c) (bytes_of_code r) (bytes_of_code o ++ bytes_of_code e)
    ∙ three ((bytes_of_code h ++ bytes_of_code c) ++ bytes_of_code r) (bytes_of_code o) (bytes_of_code e)
    ∙ ap (λ (x : List ℕ). (((x ++ bytes_of_code c) ++ bytes_of_code r) ++ bytes_of_code o) ++ bytes_of_code e) (head_bytes sig)

-- ---- where the parts end

pub body_size : (sig : Signature) (body : List ℕ) → body ≡ bytes_of_code (stub_writes ++ stub_clears sig) → is_sound (stub_writes ++ stub_clears sig) ≡ true → 38 + length body + 6 ≡ stub_body_size sig
body_size sig body e sound =
    let long : length body ≡ size_of_code (stub_writes ++ stub_clears sig) = ap length e ∙ sound_size (stub_writes ++ stub_clears sig) sound in
    omega arith

-- ---- results

pub result_bytes : (p : Option IntKind) → bytes_of_code (extends_result (result_of_kind p)) ≡ bytes_of_code (extends_parameter p 0)
result_bytes None = refl
result_bytes (Some kind) = refl

-- ---- registers of parameters from one on

pub rest_of_carriers : (all : List Instr) (n : ℕ) → n ≤ 6 → all ≡ instructions (clear_all (not_carrying 0)) → take (6 - n) (drop n all) ≡ instructions (clear_all (not_carrying n))
rest_of_carriers all n few e = ap (λ (l : List Instr). take (6 - n) (drop n l)) e ∙ by n few
  where
    by : (n : ℕ) → n ≤ 6 → take (6 - n) (drop n (instructions (clear_all (not_carrying 0)))) ≡ instructions (clear_all (not_carrying n))
    by zero few = refl
    by (suc zero) few = refl
    by (suc (suc zero)) few = refl
    by (suc (suc (suc zero))) few = refl
    by (suc (suc (suc (suc zero)))) few = refl
    by (suc (suc (suc (suc (suc zero))))) few = refl
    by (suc (suc (suc (suc (suc (suc zero)))))) few = refl
    by (suc (suc (suc (suc (suc (suc (suc n))))))) few = absurd (omega arith)

-- ---- what an extension gives

pub extended_list : (p q : Option IntKind) (r s : ℕ) (o : Option Instr) (i : Instr) → o ≡ option_map only_instr (word_extension q s) → q ≡ p → s ≡ r → o ≡ Some i → (i ∷ []) ≡ instructions (extends_parameter p r)
extended_list p q r s o i e kind reg is = one_of (word_extension p r) i (sym is ∙ e ∙ (λ j. option_map only_instr (word_extension (kind j) (reg j))))

pub extended_none : (p q : Option IntKind) (r s : ℕ) (o : Option Instr) → o ≡ option_map only_instr (word_extension q s) → q ≡ p → s ≡ r → o ≡ None → bytes_of_code (extends_parameter p r) ≡ []
extended_none p q r s o e kind reg is = none_of (word_extension p r) (sym is ∙ e ∙ (λ j. option_map only_instr (word_extension (kind j) (reg j))))
