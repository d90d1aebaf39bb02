-- Symbols serve as they are declared, and a link that has the declared signatures serves so too.
use Rattle.std.proofs.Common.{◌≡◌, ◌≢◌, refl, sym, ap, ◌∙◌, ℕ, zero, suc, ◌+◌, ◌<◌, ◌≤◌, ◌==◌, not, ◌&&◌, true, false, if◌then◌else◌, Option, None, Some, List, [], ◌∷◌, length, map, slice_get, arith}
use Rattle.std.specs.Prelude.{slice_index_or}
use Rattle.std.proofs.lemmas.Bool.Decides.{nat_tests}
use Rattle.c_types.specs.Types.{CType, Void, Int, Pointer, Array, Struct}
use Rattle.fat_ir.specs.Functions.{Linked}
use Rattle.fat_ir.specs.Step.{Located}
use Rattle.step_code.specs.Asked.{IsLow}
use Rattle.bounds_plan.specs.elaboration.Functions.{kind_in}
use Rattle.bounds_plan.specs.elaboration.Source.{SourceLayout, Signature}
use Rattle.bounds_plan.specs.elaboration.Types.{Sort, ANumber, APointer, AWhole, NoValue, sort_of}
use Rattle.c_accepted.specs.Symbols.{AllDiffer, HaveSymbols, Lacks}
use Rattle.accepted_trees.specs.Limits.{AreScalars, SymbolsServe, gives_pointer, passed, passed_as}
use Rattle.legacy_calls.specs.Legacy.{Linkage}
use Rattle.program_laws.specs.Functions.{are_arguments, returns_in, takes_in}
use Rattle.linked_trees.specs.Declared.{IsLinkedTo, are_of_types, returns_declared, takes_declared}

-- ---- by symbols

lacked : (f : ℕ) (fs : List ℕ) (n : ℕ) → n < length fs → Lacks f fs → f ≢ slice_index_or fs n 0
lacked f [] n low lacks = absurd (omega (arith, low))
lacked f (g ∷ fs) zero low lacks = lacks.0
lacked f (g ∷ fs) (suc n) low lacks = lacked f fs n (omega (arith, low)) lacks.1

short : (signatures : List Signature) (n : ℕ) (s : Signature) → slice_get signatures n ≡ Some s → n < length signatures
short [] n s e = cc
short (x ∷ more) zero s e = omega arith
short (x ∷ more) (suc n) s e = (let low = short more n s e in omega (arith, low))

takes_by : (symbols : List ℕ) (signatures : List Signature) → length signatures ≤ length symbols → AllDiffer symbols → (n : ℕ) (s : Signature) → slice_get signatures n ≡ Some s
    → (args : List (ℕ × Option ℕ)) → takes_declared symbols signatures (slice_index_or symbols n 0) args ≡ are_of_types s.parameters args
takes_by symbols [] enough differ n s e args = cc
takes_by [] (x ∷ more) enough differ n s e args = absurd (omega (arith, enough))
takes_by (f ∷ fs) (x ∷ more) enough differ zero s e args =
    let same : x ≡ s = cc in
    let own : (f == f) ≡ true = grind (arith, nat_tests) in
    ap (λ b. if b then are_of_types x.parameters args else takes_declared fs more f args) own ∙ ap (λ (y : Signature). are_of_types y.parameters args) same
takes_by (f ∷ fs) (x ∷ more) enough differ (suc n) s e args =
    let low = short more n s e in
    let symbol = slice_index_or fs n 0 in
    let apart = lacked f fs n (omega (arith, low, enough)) differ.0 in
    let other : (f == symbol) ≡ false = grind (arith, nat_tests, apart) in
    ap (λ b. if b then are_of_types x.parameters args else takes_declared fs more symbol args) other ∙ takes_by fs more (omega (arith, enough)) differ.1 n s e args

returns_by : (symbols : List ℕ) (signatures : List Signature) → length signatures ≤ length symbols → AllDiffer symbols → (n : ℕ) (s : Signature) → slice_get signatures n ≡ Some s
    → returns_declared symbols signatures (slice_index_or symbols n 0) ≡ gives_pointer (sort_of s.result)
returns_by symbols [] enough differ n s e = cc
returns_by [] (x ∷ more) enough differ n s e = absurd (omega (arith, enough))
returns_by (f ∷ fs) (x ∷ more) enough differ zero s e =
    let same : x ≡ s = cc in
    let own : (f == f) ≡ true = grind (arith, nat_tests) in
    ap (λ b. if b then gives_pointer (sort_of x.result) else returns_declared fs more f) own ∙ ap (λ (y : Signature). gives_pointer (sort_of y.result)) same
returns_by (f ∷ fs) (x ∷ more) enough differ (suc n) s e =
    let low = short more n s e in
    let symbol = slice_index_or fs n 0 in
    let apart = lacked f fs n (omega (arith, low, enough)) differ.0 in
    let other : (f == symbol) ≡ false = grind (arith, nat_tests, apart) in
    ap (λ b. if b then gives_pointer (sort_of x.result) else returns_declared fs more symbol) other ∙ returns_by fs more (omega (arith, enough)) differ.1 n s e

-- ---- types

passed_first : (sort : Sort) (t : CType) (ts : List CType) (rest : List (ℕ × Option ℕ)) (first : ℕ) → sort_of t ≡ sort → are_of_types ts rest ≡ true → are_of_types (t ∷ ts) (passed_as sort first ∷ rest) ≡ true
passed_first (ANumber kind) t ts rest first e more = (λ i. not (gives_pointer (e i)) && more i)
passed_first APointer t ts rest first e more = (λ i. gives_pointer (e i) && more i)
passed_first AWhole t ts rest first e more = (λ i. not (gives_pointer (e i)) && more i)
passed_first NoValue t ts rest first e more = (λ i. not (gives_pointer (e i)) && more i)

passed_right : (ts : List CType) (first : ℕ) → are_of_types ts (passed ts first) ≡ true
passed_right [] first = refl
passed_right (t ∷ ts) first = passed_first (sort_of t) t ts (passed ts (first + 2)) first refl (passed_right ts (first + 2))

-- arguments of scalar types are those of their kinds
fit_kinds : (ts : List CType) → AreScalars ts → (args : List (ℕ × Option ℕ)) → are_of_types ts args ≡ true → are_arguments (map (λ t. kind_in (sort_of t)) ts) args ≡ true
fit_kinds [] scalars [] e = refl
fit_kinds [] scalars (a ∷ rest) e = cc
fit_kinds (t ∷ ts) scalars [] e = cc
fit_kinds (Void ∷ ts) scalars (a ∷ rest) e = (let no : false ≡ true = scalars.0 in cc)
fit_kinds (Int kind ∷ ts) scalars ((a, None) ∷ rest) e = fit_kinds ts scalars.1 rest e
fit_kinds (Int kind ∷ ts) scalars ((a, Some b) ∷ rest) e = cc
fit_kinds (Pointer target ∷ ts) scalars ((a, None) ∷ rest) e = cc
fit_kinds (Pointer target ∷ ts) scalars ((a, Some b) ∷ rest) e = fit_kinds ts scalars.1 rest e
fit_kinds (Array element count ∷ ts) scalars (a ∷ rest) e = (let no : false ≡ true = scalars.0 in cc)
fit_kinds (Struct number ∷ ts) scalars (a ∷ rest) e = (let no : false ≡ true = scalars.0 in cc)

-- ---- sources and links

module _ (located : ℕ → Located) (layout : SourceLayout) (signatures : List Signature) (have : HaveSymbols layout signatures) where
  pub declared_serve : ((symbol : ℕ) → IsLow (located symbol)) → SymbolsServe located (returns_declared layout.functions signatures) (takes_declared layout.functions signatures) layout signatures
  declared_serve low = record {
    low = low;
    serve = λ number s e. record {
      takes_them = λ first. takes_by layout.functions signatures have.enough have.differ number s e (passed s.parameters first) ∙ passed_right s.parameters first;
      gives_one = λ is. returns_by layout.functions signatures have.enough have.differ number s e ∙ ap gives_pointer is;
    };
  }

  module _ (k : Linkage) (l : Linked) (symbol : ℕ) (is : IsLinkedTo k l layout signatures symbol) where
    pub linked_gives : returns_declared layout.functions signatures symbol ≡ true → returns_in k l symbol ≡ true
    linked_gives h = is.pointer (sym (returns_by layout.functions signatures have.enough have.differ is.number is.signature is.known) ∙ (ap (returns_declared layout.functions signatures) is.is ∙ h))

    pub linked_takes : (args : List (ℕ × Option ℕ)) → takes_declared layout.functions signatures symbol args ≡ true → takes_in k l symbol args ≡ true
    linked_takes args h =
        let declared = sym (takes_by layout.functions signatures have.enough have.differ is.number is.signature is.known args) ∙ (ap (λ (n : ℕ). takes_declared layout.functions signatures n args) is.is ∙ h) in
        let fit = fit_kinds is.signature.parameters is.scalars args declared in
        (λ i. is.there i && (ap (λ qs. are_arguments qs args) is.parameters ∙ fit) i)
