-- Numbers of symbols are those of the first of their names.
use Rattle.std.proofs.Common.{◌≡◌, ℕ, zero, suc, ◌+◌, ◌-◌, ◌<◌, ◌≤◌, ◌==◌, Bool, true, false, if◌then◌else◌, refl, sym, ap, ◌∙◌, List, [], ◌∷◌, length, slice_set, arith, None, Some, map, drop, ◌++◌}
use Rattle.std.proofs.lemmas.List.{append_assoc}
use Rattle.c_check.specs.declared.symbols.Subject.{Subject}
use Rattle.c_check.specs.declared.symbols.Subject.TheVariants.{Global, Function}
use Rattle.c_tree.specs.declared.tree.Tree.{Tree}
use Rattle.c_check_rules.specs.declared.predeclared.Bind.{Bind}
use Rattle.c_check_rules.specs.declared.predeclared.Bind.TheVariants as b
use Rattle.c_check_statements.specs.declared.state.State.{State}
use Rattle.c_check.specs.Accepted.{after}
use Rattle.c_check.specs.Symbols.{has_symbol, with_subject, named_from, literals_subject, symbol_of, symbols, named, is_same, place_from}
use Rattle.c_accepted.specs.Planned.{number_or, numbers_from}
use Rattle.steps_source.specs.declared.symbols.SymbolNumbers.{SymbolNumbers}
use Rattle.steps_source.specs.Symbols.{before_literals, named_in, numbered, placed_from}

differs : (i j : ℕ) → (i ≡ j → ⊥) → (i == j) ≡ false
differs i j apart = grind (arith, apart)

itself : (i : ℕ) → (i == i) ≡ true
itself i = grind arith

module _ (subject : ℕ → Subject) where
  -- another one leaves the numbers
  others : (x : Subject) (rest : List Subject) (at behind first n : ℕ) → ((i : ℕ) → first ≤ i → is_same (subject i) x ≡ false)
      → placed_from subject rest (at + 1) behind first n ≡ placed_from subject (x ∷ rest) at behind first n
  others x rest at behind first zero apart = refl
  others x rest at behind first (suc n) apart =
      ap (λ more. number_or (behind + first) (place_from (at + 1) (subject first) rest) ∷ more) (others x rest at behind (first + 1) n (λ i h. apart i (omega (arith, h))))
      ∙ ap (λ (b : Bool). number_or (behind + first) (if b then Some at else place_from (at + 1) (subject first) rest) ∷ placed_from subject (x ∷ rest) at behind (first + 1) n) (sym (apart first (omega arith)))

  set_one : ((i j : ℕ) → is_same (subject i) (subject j) ≡ (i == j)) → (rest : List Subject) (at behind first n m : ℕ)
      → slice_set (placed_from subject rest (at + 1) behind first n) m at ≡ placed_from subject (subject (first + m) ∷ rest) at behind first n
  set_one same rest at behind first zero zero = refl
  set_one same rest at behind first zero (suc m) = refl
  set_one same rest at behind first (suc n) zero = let x = subject (first + 0) in let here : first + 0 ≡ first = omega arith in
      ap (λ more. at ∷ more) (others x rest at behind (first + 1) n (λ i h. same i (first + 0) ∙ differs i (first + 0) (λ e. omega (arith, e, h))))
      ∙ ap (λ (b : Bool). number_or (behind + first) (if b then Some at else place_from (at + 1) (subject first) rest) ∷ placed_from subject (x ∷ rest) at behind (first + 1) n)
      (sym (same first (first + 0) ∙ ap (λ k. first == k) here ∙ itself first))
  set_one same rest at behind first (suc n) (suc m) = let x = subject (first + suc m) in let next : first + 1 + m ≡ first + suc m = omega arith in
      ap (λ more. number_or (behind + first) (place_from (at + 1) (subject first) rest) ∷ more)
      (set_one same rest at behind (first + 1) n m ∙ ap (λ k. placed_from subject (subject k ∷ rest) at behind (first + 1) n) next)
      ∙ ap (λ (b : Bool). number_or (behind + first) (if b then Some at else place_from (at + 1) (subject first) rest) ∷ placed_from subject (x ∷ rest) at behind (first + 1) n)
      (sym (same first (first + suc m) ∙ differs first (first + suc m) (λ e. omega (arith, e))))

  pub all_placed : (named : List Subject) (behind first n : ℕ) → placed_from subject named 0 behind first n ≡ numbers_from subject named behind first n
  all_placed named behind first zero = refl
  all_placed named behind first (suc n) = ap (λ more. number_or (behind + first) (place_from 0 (subject first) named) ∷ more) (all_placed named behind (first + 1) n)

pub set_global : (rest : List Subject) (at behind n m : ℕ) → slice_set (placed_from Global rest (at + 1) behind 0 n) m at ≡ placed_from Global (Global m ∷ rest) at behind 0 n
set_global rest at behind n m = let same : 0 + m ≡ m = omega arith in set_one Global (λ i j. refl) rest at behind 0 n m ∙ ap (λ k. placed_from Global (Global k ∷ rest) at behind 0 n) same

pub set_function : (rest : List Subject) (at behind n m : ℕ) → slice_set (placed_from Function rest (at + 1) behind 0 n) m at ≡ placed_from Function (Function m ∷ rest) at behind 0 n
set_function rest at behind n m = let same : 0 + m ≡ m = omega arith in set_one Function (λ i j. refl) rest at behind 0 n m ∙ ap (λ k. placed_from Function (Function k ∷ rest) at behind 0 n) same

pub other_global : (x : Subject) (rest : List Subject) (at behind n : ℕ) → ((i : ℕ) → is_same (Global i) x ≡ false) → placed_from Global rest (at + 1) behind 0 n ≡ placed_from Global (x ∷ rest) at behind 0 n
other_global x rest at behind n apart = others Global x rest at behind 0 n (λ i h. apart i)

pub other_function : (x : Subject) (rest : List Subject) (at behind n : ℕ) → ((i : ℕ) → is_same (Function i) x ≡ false) → placed_from Function rest (at + 1) behind 0 n ≡ placed_from Function (x ∷ rest) at behind 0 n
other_function x rest at behind n apart = others Function x rest at behind 0 n (λ i h. apart i)

abbrev numbers : (globals functions : List ℕ) → (texts : ℕ) → SymbolNumbers
numbers globals functions texts = record { globals = globals; functions = functions; texts = texts }

-- ---- all of them

-- one number more
pub numbers_on : (subject : ℕ → Subject) (at behind first count number : ℕ) (all new whole : List ℕ) → first < count → number ≡ behind + first → new ≡ all ++ number ∷ []
    → all ++ placed_from subject [] at behind first (count - first) ≡ whole → new ++ placed_from subject [] at behind (first + 1) (count - (first + 1)) ≡ whole
numbers_on subject at behind first count number all new whole h is e i = let rest = placed_from subject [] at behind (first + 1) (count - (first + 1)) in
    let left : count - first ≡ suc (count - (first + 1)) = omega (arith, h) in
    ap (λ xs. xs ++ rest) e ∙ append_assoc all (number ∷ []) rest ∙ ap (λ n. all ++ n ∷ rest) is ∙ sym (ap (λ k. all ++ placed_from subject [] at behind first k) left) ∙ i

from_front : (subject : ℕ → Subject) (named : List Subject) (at behind n : ℕ) → at ≡ 0 → placed_from subject (drop at named) at behind 0 n ≡ numbers_from subject named behind 0 n
from_front subject named at behind n none = ap (λ k. placed_from subject (drop k named) k behind 0 n) none ∙ all_placed subject named behind 0 n

pub all_numbered : (named : List Subject) (at globals functions texts behind last : ℕ) (gs fs : List ℕ) → at ≡ 0 → texts ≡ length named → behind ≡ texts + 1 → last ≡ behind + globals
    → gs ≡ placed_from Global (drop at named) at behind 0 globals → fs ≡ placed_from Function (drop at named) at last 0 functions → numbers gs fs texts ≡ numbered named globals functions
all_numbered named at globals functions texts behind last gs fs none t b l g f = let behind_is : behind ≡ length named + 1 = b ∙ ap (λ n. n + 1) t in
    ap (λ xs. numbers xs fs texts) (g ∙ from_front Global named at behind globals none ∙ ap (λ n. numbers_from Global named n 0 globals) behind_is)
    ∙ ap (λ xs. numbers (numbers_from Global named (length named + 1) 0 globals) xs texts)
    (f ∙ from_front Function named at last functions none ∙ ap (λ n. numbers_from Function named n 0 functions) (l ∙ ap (λ n. n + globals) behind_is))
    ∙ ap (λ n. numbers (numbers_from Global named (length named + 1) 0 globals) (numbers_from Function named (length named + 1 + globals) 0 functions) n) t

-- ---- what the symbols of a source name, up to its literals

abbrev front : List Subject → List Subject
front [] = []
front (x ∷ xs) = before_literals x (front xs)

named_front : (state : State) (xs : List Subject) → named_in (map (symbol_of state) xs) ≡ front xs
named_front state [] = refl
named_front state (x ∷ xs) = ap (before_literals x) (named_front state xs)

by_symbol : (has : Bool) (x : Subject) (more tail : List Subject) → ((ys : List Subject) → before_literals x ys ≡ x ∷ ys) → front (more ++ tail) ≡ more
    → front (with_subject (if has then Some x else None) more ++ tail) ≡ with_subject (if has then Some x else None) more
by_symbol true x more tail is e = is (front (more ++ tail)) ∙ ap (λ ys. x ∷ ys) e
by_symbol false x more tail is e = e

front_named : (state : State) (order : List Bind) (literals : List ℕ) → front (named_from state order ++ literals_subject literals) ≡ named_from state order
front_named state [] [] = refl
front_named state [] (byte ∷ more) = refl
front_named state (b.Global n ∷ more) literals = by_symbol (has_symbol state (Global n)) (Global n) (named_from state more) (literals_subject literals) (λ ys. refl) (front_named state more literals)
front_named state (b.Fun n ∷ more) literals = by_symbol (has_symbol state (Function n)) (Function n) (named_from state more) (literals_subject literals) (λ ys. refl) (front_named state more literals)
front_named state (b.Local n ∷ more) literals = front_named state more literals
front_named state (b.Service n ∷ more) literals = front_named state more literals
front_named state (b.Builtin n ∷ more) literals = front_named state more literals

pub named_in_source : (tree : Tree) → named_in (symbols tree) ≡ named tree
unfolding named
named_in_source tree = let state = after tree in named_front state (named_from state state.order ++ literals_subject state.notes.literals) ∙ front_named state state.order state.notes.literals
