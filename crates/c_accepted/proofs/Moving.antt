-- What is known grows, and an elaboration goes on with it: parts one after another.
use Rattle.std.proofs.Common.{◌≡◌, ℕ, zero, suc, ◌+◌, ◌<◌, ◌≤◌, ◌==◌, refl, sym, ap, ◌∙◌, true, false, cond, List, [], ◌∷◌, ◌++◌, length, append_assoc, length-append, arith}
use Rattle.std.specs.Prelude.{Option, None, Some, slice_get}
use Rattle.std.proofs.lemmas.Bool.Decides.{nat_tests}
use Rattle.mx_base.specs.declared.places.Place.{Place}
use Rattle.c_tree.specs.declared.tree.Expr.{Expr}
use Rattle.c_types.specs.Types.{CType, StructType, members_of}
use Rattle.c_check_rules.specs.declared.names.StructInfo.{StructInfo}
use Rattle.c_check_typing.specs.declared.fault.CheckKind.{CheckKind}
use Rattle.c_check_typing.specs.Notes.{Seen}
use Rattle.c_check_typing.specs.Rules.{members_in}
use Rattle.c_check_statements.specs.declared.state.State.{State}
use Rattle.c_check_statements.specs.Initialisers.{struct_members}
use Rattle.c_check_statements.specs.Structs.{kinds_in}
use Rattle.c_check_statements.specs.Walks.{Walk, ◌then◌, at_node, seen_in, past, reads, maybe_reads}
use Rattle.c_check.specs.Standing.{structs_from, structs_seen}
use Rattle.bounds_plan.specs.elaboration.Source.{Meanings, Reached, Around}
use Rattle.bounds_plan.specs.elaboration.Expressions.{expression}
use Rattle.bounds_plan.specs.elaboration.Statements.{maybe, done_by, tested_by}
use Rattle.c_accepted.specs.Alike.{meanings_of, IsAt, Front}
use Rattle.c_accepted.proofs.Empty.{first_empty, second_empty}
use Rattle.c_accepted.proofs.Going.{nothing_more, front_itself, front_then, Goes}
use Rattle.c_accepted.proofs.Expressions.{Alike, expressions_alike}

-- ---- what is known

-- notes grow, structs, functions and global variables stay, and these types were declared, each of a variable of the function
pub record Grows (old new : State) (count : ℕ) : Type 0 where
  pub on : Front (meanings_of old.notes) (meanings_of new.notes)
  pub structs : new.scope.structs ≡ old.scope.structs
  pub functions : new.scope.functions ≡ old.scope.functions
  pub variables : new.scope.variables ≡ old.scope.variables
  pub types : List CType
  pub many : length types ≡ count
  pub made : new.scope.made ≡ old.scope.made ++ types
  pub declared : new.notes.declared ≡ old.notes.declared ++ types

abbrev pub grows_not : (state : State) → Grows state state 0
grows_not state = record { on = front_itself (meanings_of state.notes); structs = refl; functions = refl; variables = refl; types = []; many = refl; made = sym (nothing_more state.scope.made); declared = sym (nothing_more state.notes.declared) }

pub both_more : {X : Type 0} (a b c xs ys : List X) → b ≡ a ++ xs → c ≡ b ++ ys → c ≡ a ++ (xs ++ ys)
both_more a b c xs ys p q = q ∙ (ap (λ l. l ++ ys) p ∙ append_assoc a xs ys)

abbrev pub grows_then : (a b c : State) (m n : ℕ) → Grows a b m → Grows b c n → Grows a c (m + n)
grows_then a b c m n h k = record {
  on = front_then (meanings_of a.notes) (meanings_of b.notes) (meanings_of c.notes) h.on k.on;
  structs = k.structs ∙ h.structs;
  functions = k.functions ∙ h.functions;
  variables = k.variables ∙ h.variables;
  types = h.types ++ k.types;
  many = omega (arith, length-append h.types k.types, h.many, k.many);
  made = both_more a.scope.made b.scope.made c.scope.made h.types k.types h.made k.made;
  declared = both_more a.notes.declared b.notes.declared c.notes.declared h.types k.types h.declared k.declared;
}

-- ---- the elaboration beside it

-- its structs are those that the checker knows
abbrev pub Knows : Around → State → Type 0
Knows around state = around.structs ≡ structs_seen state.scope.structs

pub record Moves (around : Around) (old new : State) (count : ℕ) (p : Reached → Reached) : Type 0 where
  pub grows : Grows old new count
  pub at : (r : Reached) → Front (meanings_of new.notes) around.meanings → IsAt r (meanings_of old.notes) → IsAt (p r) (meanings_of new.notes)

abbrev pub moves_not : (around : Around) (state : State) → Moves around state state 0 (λ r. r)
moves_not around state = record { grows = grows_not state; at = λ r w h. h }

abbrev pub moves_then : (around : Around) (a b c : State) (m n : ℕ) (p q : Reached → Reached) → Moves around a b m p → Moves around b c n q → Moves around a c (m + n) (λ r. q (p r))
moves_then around a b c m n p q h k = record {
  grows = grows_then a b c m n h.grows k.grows;
  at = λ r w x. k.at (p r) w (h.at r (front_then (meanings_of b.notes) (meanings_of c.notes) around.meanings k.grows.on w) x);
}

pub knows_on : (around : Around) (old new : State) (count : ℕ) → Knows around old → Grows old new count → Knows around new
knows_on around old new count h k = h ∙ ap structs_seen (sym k.structs)

-- by so many variables, if these numbers are the same
abbrev pub moves_as : (around : Around) (old new : State) (m n : ℕ) (p : Reached → Reached) → m ≡ n → Moves around old new m p → Moves around old new n p
moves_as around old new m n p e h = let g = h.grows in record {
  grows = record { on = g.on; structs = g.structs; functions = g.functions; variables = g.variables; types = g.types; many = g.many ∙ e; made = g.made; declared = g.declared };
  at = h.at;
}

-- ---- walks one after another

pub first_broken : (a b : Walk) (state : State) → ((a then b) state).broken ≡ [] → (a state).broken ≡ []
unfolding ◌then◌
first_broken a b state h = first_empty (a state).broken _ h

pub second_broken : (a b : Walk) (state : State) → ((a then b) state).broken ≡ [] → (b (a state).state).broken ≡ []
unfolding ◌then◌
second_broken a b state h = second_empty (a state).broken _ h

pub then_state : (a b : Walk) (state : State) → ((a then b) state).state ≡ (b (a state).state).state
unfolding ◌then◌
then_state a b state = refl

pub walks_then : (around : Around) (a b : Walk) (state : State) (m n : ℕ) (p q : Reached → Reached) → Moves around state (a state).state m p → Moves around (a state).state (b (a state).state).state n q → Moves around state ((a then b) state).state (m + n) (λ r. q (p r))
unfolding ◌then◌
walks_then around a b state m n p q h k = moves_then around state (a state).state (b (a state).state).state m n p q h k

pub walks_node : (around : Around) (place : Place) (kinds : List CheckKind) (state : State) → Moves around state (at_node place kinds state).state 0 (λ r. r)
unfolding at_node
walks_node around place kinds state = moves_not around state

-- a judgement behind a walk leaves it as it is
pub walks_judged : (around : Around) (a : Walk) (place : Place) (kinds : State → List CheckKind) (state : State) (m : ℕ) (p : Reached → Reached) → Moves around state (a state).state m p
    → Moves around state ((a then (λ st. at_node place (kinds st) st)) state).state m p
unfolding ◌then◌ at_node
walks_judged around a place kinds state m p h = h

-- ---- expressions

from_goes : (around : Around) (s : Seen) (state : State) (p : Around → Reached → Reached) → Goes s.after p → Moves around state (past s state).state 0 (p around)
unfolding past
from_goes around s state p g = record {
  grows = record { on = g.on state.notes; structs = refl; functions = refl; variables = refl; types = []; many = refl; made = sym (nothing_more state.scope.made); declared = g.still state.notes ∙ sym (nothing_more state.notes.declared) };
  at = λ r w h. g.at state.notes around r w h;
}

pub past_moves : (around : Around) (s : Seen) (state : State) (p : Around → Reached → Reached) → Goes s.after p → Moves around state (past s state).state 0 (p around)
past_moves around s state p g = from_goes around s state p g

pub past_broken : (s : Seen) (state : State) → (past s state).broken ≡ [] → s.broken ≡ []
unfolding past
past_broken s state h = h

pub past_front : (s : Seen) (state : State) (w : Meanings) → Front (meanings_of (past s state).state.notes) w → Front (meanings_of (s.after state.notes)) w
unfolding past
past_front s state w f = f

pub read_alike : (x : Expr) (state : State) → (reads x state).broken ≡ [] → Alike (seen_in state x) (expression x)
read_alike x state h = expressions_alike x false state.scope (past_broken (seen_in state x) state h)

pub reads_move : (around : Around) (x : Expr) (state : State) → (reads x state).broken ≡ [] → Moves around state (reads x state).state 0 (λ r. (expression x around r).after)
reads_move around x state h = past_moves around (seen_in state x) state (λ around r. (expression x around r).after) (read_alike x state h).goes

pub maybe_reads_done : (around : Around) (o : Option Expr) (state : State) → (maybe_reads o state).broken ≡ [] → Moves around state (maybe_reads o state).state 0 (λ r. (done_by (maybe expression o) around r).after)
maybe_reads_done around None state h = moves_not around state
maybe_reads_done around (Some x) state h = reads_move around x state h

pub maybe_reads_tested : (around : Around) (o : Option Expr) (state : State) → (maybe_reads o state).broken ≡ [] → Moves around state (maybe_reads o state).state 0 (λ r. (tested_by (maybe expression o) around r).after)
maybe_reads_tested around None state h = moves_not around state
maybe_reads_tested around (Some x) state h = reads_move around x state h

-- ---- the members of the structs

kept_members : (structs : List StructInfo) (number : ℕ) (earlier : List StructType) (n : ℕ) → n < number → members_of (structs_from number earlier structs) n ≡ members_of earlier n
kept_members [] number earlier n lt = refl
kept_members (s ∷ more) number earlier n lt = let other : (number == n) ≡ false = grind (arith, nat_tests) in
    kept_members more (number + 1) (record { number = number; members = kinds_in s.members } ∷ earlier) n (omega arith) ∙ ap (λ b. cond b (kinds_in s.members) (members_of earlier n)) other

got_members : (structs : List StructInfo) (number : ℕ) (earlier : List StructType) (k n : ℕ) → n ≡ number + k → ((j : ℕ) → number ≤ j → members_of earlier j ≡ []) → members_of (structs_from number earlier structs) n ≡ kinds_in (members_in (slice_get structs k))
got_members [] number earlier k n e none = none n (omega arith)
got_members (s ∷ more) number earlier zero n e none = let same : (number == n) ≡ true = grind (arith, nat_tests) in
    kept_members more (number + 1) (record { number = number; members = kinds_in s.members } ∷ earlier) n (omega arith) ∙ ap (λ b. cond b (kinds_in s.members) (members_of earlier n)) same
got_members (s ∷ more) number earlier (suc k) n e none = got_members more (number + 1) (record { number = number; members = kinds_in s.members } ∷ earlier) k n (omega arith)
    (λ j le. let other : (number == j) ≡ false = grind (arith, nat_tests) in ap (λ b. cond b (kinds_in s.members) (members_of earlier j)) other ∙ none j (omega arith))

pub members_seen : (structs : List StructInfo) (n : ℕ) → members_of (structs_seen structs) n ≡ kinds_in (struct_members structs n)
members_seen structs n = got_members structs 0 [] n n (omega arith) (λ j le. refl)
