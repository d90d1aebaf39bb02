-- What is kept of a function says what its signature says.
use Rattle.std.proofs.Common.{◌≡◌, ℕ, zero, suc, sym, ap, ◌∙◌, List, [], ◌∷◌, Some, slice_get}
use Rattle.std.proofs.lemmas.Option.{same_Some, none-some}
use Rattle.std.proofs.lemmas.List.Elements.{All-head, All-tail}
use Rattle.c_types.specs.Types.{Types}
use Rattle.steps_facts.specs.Around.{parameters_of}
use Rattle.steps_known.specs.declared.functions.KnownFunction.{KnownFunction}
use Rattle.steps_known.specs.Functions.{signatures_known, IsSorted, AreSorted}

module _ (table : Types) where
  pub sorted_at : (fs : List KnownFunction) (n : ℕ) (f : KnownFunction) → AreSorted table fs → slice_get fs n ≡ Some f → Some f.sorts ≡ parameters_of (slice_get (signatures_known table fs) n)
  sorted_at [] n f all e = absurd (none-some f e)
  sorted_at (x ∷ fs) zero f all e = ap Some (ap (λ (y : KnownFunction). y.sorts) (sym (same_Some x f e)) ∙ All-head (IsSorted table) x fs all)
  sorted_at (x ∷ fs) (suc n) f all e = sorted_at fs n f (All-tail (IsSorted table) x fs all) e
