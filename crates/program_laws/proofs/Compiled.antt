-- The functions of a compiled program are as is owed, where homes serve and trees keep to the limits of code.
use Rattle.std.proofs.Common.{◌≡◌, ℕ, suc, ◌+◌, ◌<◌, ◌≤◌, Bool, true, false, Option, None, Some, List, [], ◌∷◌, ◌++◌, length, refl, arith, ap, ◌∙◌, sym, subst}
use Rattle.std.specs.Prelude.{slice_index_or, nat_lt, if◌then◌else◌}
use Rattle.std.proofs.lemmas.Bool.Decides.{nat_tests}
use Rattle.std.proofs.lemmas.List.{append_assoc, get_or_append_left}
use Rattle.mx_base.specs.declared.numbers.IntKind.{IntKind}
use Rattle.mx_base.specs.Memory.{Bytes}
use Rattle.mx_base.specs.StopOfC.{AccessOfC}
use Rattle.fat_ir.specs.Spans.{Range, Holds}
use Rattle.fat_ir.specs.Step.{Located}
use Rattle.bounds_plan.specs.steps.Code.{fat_function, fat_parameters, arrived, in_turn, most_pairs}
use Rattle.bounds_plan.specs.steps.Compiled.{FitsFunction, ParametersStand, all_compiled, compiled, parameters_of, sorts_of, taken_by}
use Rattle.bounds_plan.specs.meaning.Functions.{FunctionOfC, Linked, Parameter, Private, Framed}
use Rattle.bounds_plan.specs.steps.Sorts.{pairs_of}
use Rattle.step_code.specs.Asked.{FineSteps}
use Rattle.step_code.specs.Homes.{first_in, last_in}
use Rattle.step_code.specs.Homing.{FineArguments, taken}
use Rattle.step_code.specs.Steps.{Plan}
use Rattle.step_code.proofs.Spanning.{homes_assigned}
use Rattle.asked_steps.specs.Homes.{HomesServe}
use Rattle.asked_steps.specs.Trees.{FunctionWithin}
use Rattle.asked_steps.proofs.Parameters.{ArrivedAt, arrived_at}
use Rattle.legacy_calls.specs.Legacy.{Linkage}
use Rattle.program_laws.specs.Compiled.{layout_of, kinds_of, AreClear, IsCompiled, HasCompiled}
use Rattle.program_laws.specs.Functions.{IsFunction, HasFunctions, returns_in, takes_in}

-- what is known of the steps of all compiled functions
abbrev pub AreAsked : Type 0
AreAsked = (count : ℕ → ℕ) (f : FunctionOfC) → FitsFunction count f → pairs_of f.body ≤ most_pairs → (name units : ℕ) (p : Plan) (range : ℕ → Range) → HomesServe (fat_function name f) units p range
    → (returns : ℕ → Bool) (takes : ℕ → List (ℕ × Option ℕ) → Bool) → FunctionWithin p.located p.pointer returns takes f
    → FineSteps units p p.located (fat_function name f).steps (λ x. first_in (range x)) (λ x. last_in (range x)) returns takes 0 (fat_function name f).steps

few_taken : (private : ℕ) (sorts : ℕ → Bool) (home : ℕ) (ps : List Parameter) → ParametersStand private sorts home ps → home ≤ private → home + taken (fat_parameters ps) ≤ private
few_taken private sorts home [] h le = omega arith
few_taken private sorts home (Private x (Some kind) ∷ ps) h le = let at = h.0 in let low = h.1.0 in let rest = few_taken private sorts (home + 1) ps h.2 (omega arith) in omega arith
few_taken private sorts home (Private x None ∷ ps) h le = let at = h.0 in let low = h.1.0 in let rest = few_taken private sorts (home + 2) ps h.2 (omega arith) in omega arith
few_taken private sorts home (Framed offset (Some kind) ∷ ps) h le = few_taken private sorts home ps h le
few_taken private sorts home (Framed offset None ∷ ps) h le = few_taken private sorts home ps h le

as_many : (ps : List Parameter) → length (kinds_of ps) ≡ length ps
as_many [] = refl
as_many (Private x kind ∷ ps) = ap (λ (n : ℕ). suc n) (as_many ps)
as_many (Framed offset kind ∷ ps) = ap (λ (n : ℕ). suc n) (as_many ps)

-- ---- parameters

begins_at : (r : Range) → Holds r 0 → first_in r ≤ 0
begins_at r h = let from = h.0 in let past = h.1 in let e : nat_lt r.from r.past ≡ true = grind (arith, nat_tests) in
    subst (λ (b : Bool). (if b then r.from else 0xffff_ffff_ffff_ffff) ≤ 0) (sym e) from

module _ (name : ℕ) (f : FunctionOfC) (units : ℕ) (p : Plan) (range : ℕ → Range) (serve : HomesServe (fat_function name f) units p range) where
  abbrev private : ℕ
  private = length f.privates

  abbrev base : ℕ
  base = private + length (arrived f.parameters)

  abbrev list : List Bool
  list = (fat_function name f).bounds

  abbrev first : ℕ → ℕ
  first x = first_in (range x)

  -- a value that is there from the first step on, of a sort
  begins : (b : Bool) (x : ℕ) → x < base → slice_index_or list x false ≡ b → (first x ≤ 0) × (p.is_bounds x ≡ b)
  begins b x less sort = (begins_at (range x) ((serve.have.spans x).first less), sym (serve.sorts x (omega arith)) ∙ sort)

  in_privates : (x : ℕ) → x < private → slice_index_or list x false ≡ sorts_of f x
  in_privates x less = ap (λ (xs : List Bool). slice_index_or xs x false) (append_assoc f.privates (arrived f.parameters) (in_turn most_pairs)) ∙ get_or_append_left f.privates (arrived f.parameters ++ in_turn most_pairs) false x less

  fine : (home temp i b : ℕ) (ps : List Parameter) → temp + length (arrived ps) ≤ base → ParametersStand private (sorts_of f) home ps → ArrivedAt list ps temp → AreClear p first home temp i b ps
      → FineArguments p first home temp i b (fat_parameters ps) (kinds_of ps)
  fine home temp i b [] le h t c = tt
  fine home temp i b (Private x (Some kind) ∷ ps) le h t c =
      let less : home < private = let e = h.0 in let l = h.1.0 in omega arith in
      let at = begins false home (omega arith) (in_privates home less ∙ ap (sorts_of f) (sym h.0) ∙ h.1.1) in
      ((at.0, at.1, c.0), fine (home + 1) temp (i + 1) b ps le h.2 t c.1)
  fine home temp i b (Private x None ∷ ps) le h t c =
      let less : home + 1 < private = let e = h.0 in let l = h.1.0 in omega arith in
      let at = begins false home (omega arith) (in_privates home (omega arith) ∙ ap (sorts_of f) (sym h.0) ∙ h.1.1) in
      let next = begins true (home + 1) (omega arith) (in_privates (home + 1) less ∙ ap (λ (v : ℕ). sorts_of f (v + 1)) (sym h.0) ∙ h.1.2) in
      (((at.0, at.1, c.0.0), (next.0, next.1, c.0.1)), fine (home + 2) temp (i + 1) (b + 1) ps le h.2 t c.1)
  fine home temp i b (Framed offset (Some kind) ∷ ps) le h t c =
      let at = begins false temp (omega arith) t.0 in
      ((at.0, at.1, c.0), fine home (temp + 1) (i + 1) b ps (omega arith) h t.1 c.1)
  fine home temp i b (Framed offset None ∷ ps) le h t c =
      let at = begins false temp (omega arith) t.0 in
      let next = begins true (temp + 1) (omega arith) t.1 in
      (((at.0, at.1, c.0.0), (next.0, next.1, c.0.1)), fine home (temp + 2) (i + 1) (b + 1) ps (omega arith) h t.2 c.1)

  pub arguments_fine : ParametersStand private (sorts_of f) 0 f.parameters → AreClear p first 0 private 0 0 f.parameters
      → FineArguments p first 0 private 0 0 (fat_parameters f.parameters) (kinds_of f.parameters)
  arguments_fine h c = fine 0 private 0 0 f.parameters (omega arith) h (arrived_at list f.parameters f.privates (in_turn most_pairs) private (append_assoc f.privates (arrived f.parameters) (in_turn most_pairs)) refl) c

module _ (asked : AreAsked) (k : Linkage) (image : Bytes) (places : ℕ → Option AccessOfC) (inner stub : ℕ → ℕ) where
  function_is : (count : ℕ → ℕ) (name : ℕ) (l : Linked) (f : ℕ) → FitsFunction count l.fun → pairs_of l.fun.body ≤ most_pairs → (k.own f).parameters ≡ kinds_of l.fun.parameters → IsCompiled k image places inner stub name l f → IsFunction k image places inner stub (compiled name l) f
  function_is count name l f fits few signature c =
      let steps = asked count l.fun fits few name c.homes.units c.homes.plan c.homes.range c.serve (returns_in k (compiled name l)) (takes_in k (compiled name l)) c.within in
      let same : c.homes.plan.located ≡ l.located = λ i symbol. c.located symbol i in
      record {
        layout = layout_of c.homes;
        written = c.written;
        homes = record {
          few_words = c.few_words;
          few_bytes = c.few_bytes;
          assigned = homes_assigned (fat_function name l.fun) c.homes.units c.homes.plan c.homes.range c.serve.have c.serve.short c.serve.ends;
          sorts = λ x less. c.serve.sorts x (omega arith);
          few_taken = let few_of = few_taken (length l.fun.privates) (sorts_of l.fun) 0 l.fun.parameters fits.parameters (omega arith) in omega arith;
          arguments = at_signature (λ kinds. FineArguments c.homes.plan (λ v. first_in (c.homes.range v)) 0 (length l.fun.privates) 0 0 (fat_parameters l.fun.parameters) kinds)
              (arguments_fine name l.fun c.homes.units c.homes.plan c.homes.range c.serve fits.parameters c.arguments);
        };
        pointer = c.pointer;
        steps = subst (λ (where_is : ℕ → Located). FineSteps c.homes.units c.homes.plan where_is (fat_function name l.fun).steps (λ x. first_in (c.homes.range x)) (λ x. last_in (c.homes.range x))
            (returns_in k (compiled name l)) (takes_in k (compiled name l)) 0 (fat_function name l.fun).steps) same steps;
      }
    where
      at_signature : (P : List (Option IntKind) → Type 0) → P (kinds_of l.fun.parameters) → P (k.own f).parameters
      at_signature P h = subst P (sym signature) h

  pub same_counts : (takes_outside : ℕ → ℕ) (program : ℕ → Linked) (name : ℕ → ℕ) → HasCompiled k image places inner stub takes_outside program name → (f : ℕ) → parameters_of program f ≡ length (k.own f).parameters
  same_counts takes_outside program name has f = sym (as_many (program f).fun.parameters) ∙ ap (λ (kinds : List (Option IntKind)). length kinds) (sym (has.signatures f))

  pub has_functions : (takes_outside : ℕ → ℕ) (program : ℕ → Linked) (name : ℕ → ℕ) → HasCompiled k image places inner stub takes_outside program name → HasFunctions k image places inner stub (all_compiled name program)
  has_functions takes_outside program name has = record {
    reader = has.reader;
    few = has.few;
    each = λ f few. function_is (λ symbol. taken_by (parameters_of program) takes_outside ((program f).targets symbol)) (name f) (program f) f (has.fits f) (has.few_pairs f) (has.signatures f) (has.each f few);
    placed = has.placed;
  }
