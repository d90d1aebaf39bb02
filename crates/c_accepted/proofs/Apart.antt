-- In the layout of a plan no global has the symbol of the literals, and what has a symbol has its number.
use Rattle.std.proofs.Common.{◌≡◌, ◌∙◌, ap, refl, ℕ, ◌+◌, ◌≤◌, ◌<◌, arith, List, [], ◌∷◌, ◌++◌, map, length}
use Rattle.std.specs.Prelude.{Some, slice_get, slice_index_or}
use Rattle.c_tree.specs.declared.tree.Tree.{Tree}
use Rattle.c_check.specs.Accepted.{after}
use Rattle.c_check.specs.declared.symbols.Subject.{Subject}
use Rattle.c_check.specs.declared.symbols.Subject.TheVariants.{Global, Function, Literals}
use Rattle.c_check.specs.declared.symbols.Symbol.{Symbol}
use Rattle.c_check.specs.Symbols.{named, number_of, HasNumber, literals_subject, symbol_of, symbols, place_from}
use Rattle.c_accepted.specs.Made.{TextsApart}
use Rattle.c_accepted.specs.Planned.{layout_of_plan}
use Rattle.c_accepted.proofs.Places.{place_within, numbers_apart, numbered, found_at, next_found}

pub texts_apart : (tree : Tree) (literals : List ℕ) (s : Subject) → HasNumber tree s → TextsApart (layout_of_plan tree literals)
texts_apart tree literals s h number same = let few = (place_within 0 s (named tree) h.number h.is).1 in let some : 1 ≤ length (named tree) = omega (arith, few) in numbers_apart (named tree) (length (named tree) + 1) 0 (length (after tree).scope.variables) number some (omega arith) same

pub globals_numbered : (tree : Tree) (literals : List ℕ) (n number : ℕ) → n < length (after tree).scope.variables → number_of tree (Global n) ≡ Some number → slice_index_or (layout_of_plan tree literals).globals n 0 ≡ number
globals_numbered tree literals n number lt h = let same : 0 + n ≡ n = omega arith in
    numbered Global (named tree) (length (named tree) + 1) 0 (length (after tree).scope.variables) n number lt (ap (λ m. place_from 0 (Global m) (named tree)) same ∙ h)

pub functions_numbered : (tree : Tree) (literals : List ℕ) (n number : ℕ) → n < length (after tree).scope.functions → number_of tree (Function n) ≡ Some number → slice_index_or (layout_of_plan tree literals).functions n 0 ≡ number
functions_numbered tree literals n number lt h = let same : 0 + n ≡ n = omega arith in
    numbered Function (named tree) (length (named tree) + 1 + length (after tree).scope.variables) 0 (length (after tree).scope.functions) n number lt (ap (λ m. place_from 0 (Function m) (named tree)) same ∙ h)

map_both : {A B : Type 0} (f : A → B) (xs ys : List A) → map f (xs ++ ys) ≡ map f xs ++ map f ys
map_both f [] ys = refl
map_both f (x ∷ xs) ys = ap (λ l. f x ∷ l) (map_both f xs ys)

symbols_are : (tree : Tree) → symbols tree ≡ map (symbol_of (after tree)) (named tree) ++ map (symbol_of (after tree)) (literals_subject (after tree).notes.literals)
unfolding named
symbols_are tree = map_both (symbol_of (after tree)) _ (literals_subject (after tree).notes.literals)

pub symbol_got : (tree : Tree) (s : Subject) (number : ℕ) → number_of tree s ≡ Some number → slice_get (symbols tree) number ≡ Some (symbol_of (after tree) s)
symbol_got tree s number h = let same : number ≡ 0 + number = omega arith in ap (λ (all : List Symbol). slice_get all number) (symbols_are tree) ∙ found_at (symbol_of (after tree)) (map (symbol_of (after tree)) (literals_subject (after tree).notes.literals)) 0 s (named tree) number (h ∙ ap Some same)

pub literals_got : (tree : Tree) (byte : ℕ) (more : List ℕ) → (after tree).notes.literals ≡ byte ∷ more → slice_get (symbols tree) (length (named tree)) ≡ Some (symbol_of (after tree) Literals)
literals_got tree byte more h =
    ap (λ (all : List Symbol). slice_get all (length (named tree))) (symbols_are tree ∙ ap (λ (literals : List ℕ). map (symbol_of (after tree)) (named tree) ++ map (symbol_of (after tree)) (literals_subject literals)) h)
    ∙ next_found (symbol_of (after tree)) (named tree) (symbol_of (after tree) Literals)
