-- A walk goes through nodes one after another, and breaks what they break and then the rules of the node that they are parts of.
use Rattle.std.proofs.Common.{◌≡◌, ap, sym, ◌∙◌, refl, List, [], ◌∷◌, ◌++◌, map, append_assoc, append-nil}
use Rattle.std.specs.Prelude.{flat_map, Option, None, Some}
use Rattle.std.proofs.lemmas.List.Concat.{flat_map-append}
use Rattle.mx_base.specs.declared.places.Place.{Place}
use Rattle.c_tree.specs.declared.tree.Expr.{Expr}
use Rattle.c_check_typing.specs.declared.fault.CheckKind.{CheckKind}
use Rattle.c_check_typing.specs.declared.fault.Broken.{Broken}
use Rattle.c_check_typing.specs.Refusals.{all_at}
use Rattle.c_check_statements.specs.declared.state.State.{State}
use Rattle.c_check_statements.specs.Walks.{Walk, stay, ◌then◌, maybe_reads, reads, past, walk_all}
use Rattle.c_check.specs.Nodes.{Node, Stands, in_turn, behind_all, any, expression}
use Rattle.c_check.specs.NodeRules.{broken_in}

abbrev pub all_broken : List Stands → State → List Broken
all_broken all state = flat_map broken_in (in_turn all state)

-- a walk through these
pub record Goes (walk : Walk) (all : List Stands) : Type 0 where
  pub broken : (state : State) → (walk state).broken ≡ all_broken all state
  pub behind : (state : State) → (walk state).state ≡ behind_all all state

-- a walk through these, and then the rules of the node that they are parts of, by what is known behind them
pub record Ends (walk : Walk) (all : List Stands) (place : Place) (kinds : State → List CheckKind) : Type 0 where
  pub broken : (state : State) → (walk state).broken ≡ all_broken all state ++ all_at place (kinds (behind_all all state))

pub turns_joined : (xs ys : List Stands) (state : State) → in_turn (xs ++ ys) state ≡ in_turn xs state ++ in_turn ys (behind_all xs state)
turns_joined [] ys state = refl
turns_joined (x ∷ xs) ys state = ap (λ (l : List Node). (x state).node ∷ l) (turns_joined xs ys (x state).behind)

behind_joined : (xs ys : List Stands) (state : State) → behind_all (xs ++ ys) state ≡ behind_all ys (behind_all xs state)
behind_joined [] ys state = refl
behind_joined (x ∷ xs) ys state = behind_joined xs ys (x state).behind

pub broken_joined : (xs ys : List Stands) (state : State) → all_broken (xs ++ ys) state ≡ all_broken xs state ++ all_broken ys (behind_all xs state)
broken_joined xs ys state = ap (flat_map broken_in) (turns_joined xs ys state) ∙ flat_map-append broken_in (in_turn xs state) (in_turn ys (behind_all xs state))

pub goes_nowhere : Goes stay []
goes_nowhere = record { broken = λ state. refl; behind = λ state. refl }

pub goes_once : (walk : Walk) (x : Stands) → ((state : State) → (walk state).broken ≡ broken_in (x state).node) → ((state : State) → (walk state).state ≡ (x state).behind) → Goes walk (x ∷ [])
goes_once walk x h k = record { broken = λ state. h state ∙ sym (append-nil (broken_in (x state).node)); behind = k }

pub goes_on : {a b : Walk} {xs ys : List Stands} → Goes a xs → Goes b ys → Goes (a then b) (xs ++ ys)
unfolding ◌then◌
goes_on {a = a} {b = b} {xs = xs} {ys = ys} h k = record {
  broken = λ state. (λ i. h.broken state i ++ k.broken (h.behind state i) i) ∙ sym (broken_joined xs ys state);
  behind = λ state. (λ i. k.behind (h.behind state i) i) ∙ sym (behind_joined xs ys state);
}

pub ends_on : {a b : Walk} {xs ys : List Stands} {place : Place} {kinds : State → List CheckKind} → Goes a xs → Ends b ys place kinds → Ends (a then b) (xs ++ ys) place kinds
unfolding ◌then◌
ends_on {xs = xs} {ys = ys} {place = place} {kinds = kinds} h k = record {
  broken = λ state. (λ i. h.broken state i ++ k.broken (h.behind state i) i)
      ∙ sym (append_assoc (all_broken xs state) (all_broken ys (behind_all xs state)) (all_at place (kinds (behind_all ys (behind_all xs state)))))
      ∙ (λ i. sym (broken_joined xs ys state) i ++ all_at place (kinds (sym (behind_joined xs ys state) i)));
}

pub ends_here : {a : Walk} {xs : List Stands} {place : Place} {kinds : State → List CheckKind} (b : Walk) → ((state : State) → (b state).broken ≡ all_at place (kinds state)) → Goes a xs → Ends (a then b) xs place kinds
unfolding ◌then◌
ends_here b e h = record { broken = λ state. λ i. h.broken state i ++ e (h.behind state i) i }

pub goes_all : {A : Type 0} (walk : A → Walk) (stands : A → Stands) → ((x : A) → Goes (walk x) (stands x ∷ [])) → (all : List A) → Goes (walk_all (map walk all)) (map stands all)
goes_all walk stands h [] = goes_nowhere
goes_all walk stands h (x ∷ more) = goes_on (h x) (goes_all walk stands h more)

pub goes_expression : (x : Expr) → Goes (reads x) (expression x ∷ [])
unfolding past
goes_expression x = goes_once (reads x) (expression x) (λ state. refl) (λ state. refl)

pub goes_any_expression : (x : Option Expr) → Goes (maybe_reads x) (any expression x)
goes_any_expression None = goes_nowhere
goes_any_expression (Some x) = goes_expression x
