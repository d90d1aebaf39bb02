-- What the loops that put code at the end of bytes keep.
use Rattle.std.specs.Prelude.{Bool, true, if◌then◌else◌, Option, None, Some, IsTrue}
use Rattle.std.specs.List.{list_all}
use Rattle.std.proofs.Common.{◌≡◌, ℕ, ◌+◌, ◌<◌, ◌≤◌, List, ◌∷◌, ◌++◌, length, drop, get_or, append_assoc, length-append, refl, arith, ap, ◌∙◌, sym, subst}
use Rattle.std.proofs.lemmas.Bool.{and_parts}
use Rattle.std.proofs.lemmas.List.{append-nil, drop_more, at_drop_more, at_drop_all}
use Rattle.mx_base.specs.declared.numbers.IntKind.{IntKind}
use Rattle.x86_forms.specs.declared.instr.Instr.{Instr}
use Rattle.x86_forms.specs.Spelling.{spelling}
use Rattle.x86_forms.specs.Validity.{valid_of}
use Rattle.call_sigs.specs.Signatures.{is_pointer, kind_of_letter, kinds_of_letters, parameter_register, pointers}
use Rattle.call_gates.specs.Gates.{spelled, bytes_of_code, extends_parameter, extend_parameters}
use Rattle.call_gates.proofs.Sound.{bytes_append}

-- ---- instructions

pub next_valid : (code : List Instr) (i : ℕ) (d : Instr) → i < length code → IsTrue (list_all valid_of (drop i code)) → IsTrue (valid_of (get_or code i d)) × IsTrue (list_all valid_of (drop (i + 1) code))
next_valid code i d low h =
    let parts = and_parts (valid_of (get_or code i d)) (list_all valid_of (drop (i + 1) code)) (subst (λ (l : List Instr). list_all valid_of l ≡ true) (drop_more code i d low) h) in
    (parts.0, parts.1)

next_spelled : (code : List Instr) (i : ℕ) (d : Instr) → i < length code → spelled (drop i code) ≡ spelling (get_or code i d) ++ spelled (drop (i + 1) code)
next_spelled code i d low = at_drop_more spelled code i d low

pub next_room : (out old : List ℕ) (code : List Instr) (i : ℕ) (d : Instr) (most : ℕ) → i < length code → out ++ spelled (drop i code) ≡ old ++ spelled code → length old + length (spelled code) ≤ most → length out + length (spelling (get_or code i d)) ≤ most
next_room out old code i d most low same few =
    let all : length (out ++ spelled (drop i code)) ≡ length (old ++ spelled code) = ap length same in
    let more : length (spelled (drop i code)) ≡ length (spelling (get_or code i d) ++ spelled (drop (i + 1) code)) = ap length (next_spelled code i d low) in
    omega (arith, all, more, few, length-append out (spelled (drop i code)), length-append old (spelled code), length-append (spelling (get_or code i d)) (spelled (drop (i + 1) code)))

pub next_put : (out new old : List ℕ) (code : List Instr) (i : ℕ) (d : Instr) → i < length code → out ++ spelled (drop i code) ≡ old ++ spelled code → new ≡ out ++ spelling (get_or code i d) → new ++ spelled (drop (i + 1) code) ≡ old ++ spelled code
next_put out new old code i d low same is =
    ap (λ (l : List ℕ). l ++ spelled (drop (i + 1) code)) is
    ∙ append_assoc out (spelling (get_or code i d)) (spelled (drop (i + 1) code))
    ∙ ap (λ (l : List ℕ). out ++ l) (sym (next_spelled code i d low))
    ∙ same

pub all_put : (out old : List ℕ) (code : List Instr) (i : ℕ) → length code ≤ i → out ++ spelled (drop i code) ≡ old ++ spelled code → out ≡ old ++ spelled code
all_put out old code i high same = sym (append-nil out) ∙ ap (λ (l : List ℕ). out ++ l) (sym (at_drop_all spelled code i high)) ∙ same

-- ---- parameters

abbrev pub rest_of : ℕ → List ℕ → List ℕ
rest_of k params = bytes_of_code (extend_parameters k (kinds_of_letters (drop k params)))

pub next_extended : (out new whole : List ℕ) (params : List ℕ) (k d : ℕ) → k < length params → out ++ rest_of k params ≡ whole → new ≡ out ++ bytes_of_code (extends_parameter (kind_of_letter (get_or params k d)) (parameter_register k)) → new ++ rest_of (k + 1) params ≡ whole
next_extended out new whole params k d low same is =
    let mine = extends_parameter (kind_of_letter (get_or params k d)) (parameter_register k) in
    let rest = extend_parameters (k + 1) (kinds_of_letters (drop (k + 1) params)) in
    ap (λ (l : List ℕ). l ++ bytes_of_code rest) is
    ∙ append_assoc out (bytes_of_code mine) (bytes_of_code rest)
    ∙ ap (λ (l : List ℕ). out ++ l) (sym (bytes_append mine rest))
    ∙ ap (λ (l : List ℕ). out ++ l) (sym (at_drop_more (λ (l : List ℕ). bytes_of_code (extend_parameters k (kinds_of_letters l))) params k d low))
    ∙ same

pub all_extended : (out whole : List ℕ) (params : List ℕ) (k : ℕ) → length params ≤ k → out ++ rest_of k params ≡ whole → out ≡ whole
all_extended out whole params k high same = sym (append-nil out) ∙ ap (λ (l : List ℕ). out ++ l) (sym (at_drop_all (λ (l : List ℕ). bytes_of_code (extend_parameters k (kinds_of_letters l))) params k high)) ∙ same

-- ---- pointers

abbrev pub one_if : Bool → ℕ
one_if b = if b then 1 else 0

more_pointers : (p : Option IntKind) (ps : List (Option IntKind)) → pointers (p ∷ ps) ≡ one_if (is_pointer p) + pointers ps
more_pointers None ps = refl
more_pointers (Some kind) ps = omega arith

pub next_counted : (params : List ℕ) (i d : ℕ) → i < length params → pointers (kinds_of_letters (drop i params)) ≡ one_if (is_pointer (kind_of_letter (get_or params i d))) + pointers (kinds_of_letters (drop (i + 1) params))
next_counted params i d low = at_drop_more (λ (l : List ℕ). pointers (kinds_of_letters l)) params i d low ∙ more_pointers (kind_of_letter (get_or params i d)) (kinds_of_letters (drop (i + 1) params))

pub all_counted : (params : List ℕ) (i : ℕ) → length params ≤ i → pointers (kinds_of_letters (drop i params)) ≡ 0
all_counted params i high = at_drop_all (λ (l : List ℕ). pointers (kinds_of_letters l)) params i high
