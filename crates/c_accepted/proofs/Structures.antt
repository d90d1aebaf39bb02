-- The elaboration knows a struct without broken rules as the checker does.
use Rattle.std.proofs.Common.{◌≡◌, ℕ, suc, ◌+◌, refl, sym, ap, ◌∙◌, subst, Bool, true, false, List, [], ◌∷◌, ◌++◌, map, length, append_assoc, arith}
use Rattle.std.specs.Prelude.{is_some, slice_set}
use Rattle.mx_base.specs.declared.places.Place.{Place}
use Rattle.c_tree.specs.declared.tree.Decl.{Decl}
use Rattle.c_types.specs.Types.{CType, StructType}
use Rattle.c_check_rules.specs.declared.names.StructInfo.{StructInfo}
use Rattle.c_check_rules.specs.declared.names.Member.{Member}
use Rattle.c_check_rules.specs.Names.{tags, member_names, tag_at}
use Rattle.c_check_statements.specs.declared.decls.Use.TheVariants as u
use Rattle.c_check_statements.specs.declared.state.State.{State}
use Rattle.c_check_statements.specs.Declarations.{member_noted, after_counts}
use Rattle.c_check_statements.specs.Structs.{is_member, member_declared, with_member, Gathered, gathered, open_struct, with_struct as open_in, kinds_in, struct_by, struct_walk}
use Rattle.c_check.specs.Standing.{structs_from, structs_seen}
use Rattle.bounds_plan.specs.laws.Roots.{Begins}
use Rattle.bounds_plan.specs.elaboration.Source.{Reached, Around, past_member}
use Rattle.bounds_plan.specs.elaboration.Expressions.{expression}
use Rattle.bounds_plan.specs.elaboration.Statements.{past_counts}
use Rattle.bounds_plan.specs.elaboration.Functions.{declared_all}
use Rattle.c_accepted.specs.Alike.{meanings_of, IsAt, Front}
use Rattle.c_accepted.proofs.Empty.{first_empty, second_empty}
use Rattle.c_accepted.proofs.Going.{nothing_more, front_itself, front_then}
use Rattle.c_accepted.proofs.Declaring.{declares_well, front_member, at_member, member_stands}

-- ---- lists

set_last : {X : Type 0} (xs : List X) (x y : X) → slice_set (xs ++ (x ∷ [])) (length xs) y ≡ xs ++ (y ∷ [])
set_last [] x y = refl
set_last (z ∷ xs) x y = ap (λ l. z ∷ l) (set_last xs x y)

map_last : {X Y : Type 0} (f : X → Y) (xs : List X) (x : X) → map f (xs ++ (x ∷ [])) ≡ map f xs ++ (f x ∷ [])
map_last f [] x = refl
map_last f (y ∷ xs) x = ap (λ l. f y ∷ l) (map_last f xs x)

as_many : {X Y : Type 0} (f : X → Y) (xs : List X) → length (map f xs) ≡ length xs
as_many f [] = refl
as_many f (x ∷ xs) = ap suc (as_many f xs)

seen_from : (structs : List StructInfo) (s : StructInfo) (number : ℕ) (earlier : List StructType) → structs_from number earlier (structs ++ (s ∷ [])) ≡ record { number = number + length structs; members = kinds_in s.members } ∷ structs_from number earlier structs
seen_from [] s number earlier = ap (λ n. record { number = n; members = kinds_in s.members } ∷ earlier) (omega arith)
seen_from (t ∷ structs) s number earlier = seen_from structs s (number + 1) (record { number = number; members = kinds_in t.members } ∷ earlier)
    ∙ ap (λ n. record { number = n; members = kinds_in s.members } ∷ structs_from (number + 1) (record { number = number; members = kinds_in t.members } ∷ earlier) structs) (omega arith)

pub seen_last : (structs : List StructInfo) (s : StructInfo) → structs_seen (structs ++ (s ∷ [])) ≡ record { number = length structs; members = kinds_in s.members } ∷ structs_seen structs
seen_last structs s = seen_from structs s 0 [] ∙ ap (λ n. record { number = n; members = kinds_in s.members } ∷ structs_seen structs) (omega arith)

-- ---- members

abbrev pub names_of : List Decl → List (List ℕ)
names_of = map (λ (d : Decl). d.name)

-- members that break no rule are those that stand there before and one of each declaration
record MembersWell (before : List Member) (all : List Decl) (old : State) (now : List Member) (new : State) : Type 0 where
  on : Front (meanings_of old.notes) (meanings_of new.notes)
  structs : new.scope.structs ≡ old.scope.structs
  functions : new.scope.functions ≡ old.scope.functions
  variables : new.scope.variables ≡ old.scope.variables
  others : List Member
  members : now ≡ before ++ others
  names : member_names others ≡ names_of all
  at : (around : Around) (r : Reached) → Front (meanings_of new.notes) around.meanings → IsAt r (meanings_of old.notes) → IsAt (declared_all expression past_member all around r).after (meanings_of new.notes)
  types : (around : Around) (r : Reached) → Front (meanings_of new.notes) around.meanings → IsAt r (meanings_of old.notes) → (declared_all expression past_member all around r).types ≡ kinds_in others

gathers_well : (before : List Member) (all : List Decl) (old : State) → (gathered before all old).broken ≡ [] → MembersWell before all old (gathered before all old).members (gathered before all old).state
gathers_well before [] old h = record { on = front_itself (meanings_of old.notes); structs = refl; functions = refl; variables = refl; others = []; members = sym (nothing_more before); names = refl; at = λ around r w a. a; types = λ around r w a. refl }
gathers_well before (d ∷ more) old h =
    let declared = member_declared before d old in
    let known = declares_well u.Variable (λ scope kind. is_member d.name before) false member_noted d old (first_empty declared.broken _ h) in
    let mid = member_noted known.kind (after_counts old d) in let m = meanings_of (after_counts old d).notes in
    let x : Member = record { name = d.name; kind = known.kind } in
    let rest = subst (λ kind. (gathered (with_member d.name kind before) more declared.state).broken ≡ [] → MembersWell before (d ∷ more) old (gathered (with_member d.name kind before) more declared.state).members (gathered (with_member d.name kind before) more declared.state).state) (sym known.is)
    (subst (λ state. (gathered (before ++ (x ∷ [])) more state).broken ≡ [] → MembersWell before (d ∷ more) old (gathered (before ++ (x ∷ [])) more state).members (gathered (before ++ (x ∷ [])) more state).state) (sym known.next) (λ k. let others = gathers_well (before ++ (x ∷ [])) more mid k in
    let last = meanings_of (gathered (before ++ (x ∷ [])) more mid).state.notes in
    let back = λ (around : Around) (w : Front last around.meanings). front_then (meanings_of mid.notes) last around.meanings others.on w in
    let here = λ (around : Around) (r : Reached) (w : Front last around.meanings) (a : IsAt r (meanings_of old.notes)). known.goes.at old.notes around r (front_then m (meanings_of mid.notes) around.meanings (front_member known.kind m) (back around w)) a in
    let next = λ (around : Around) (r : Reached) (w : Front last around.meanings) (a : IsAt r (meanings_of old.notes)). at_member known.kind m (past_counts expression d around r) (here around r w a) in record {
      on = front_then (meanings_of old.notes) (meanings_of mid.notes) last (front_then (meanings_of old.notes) m (meanings_of mid.notes) (known.goes.on old.notes) (front_member known.kind m)) others.on;
      structs = others.structs;
      functions = others.functions;
      variables = others.variables;
      others = x ∷ others.others;
      members = others.members ∙ append_assoc before (x ∷ []) others.others;
      names = ap (λ ns. d.name ∷ ns) others.names;
      at = λ around r w a. others.at around (past_member (past_counts expression d around r)) w (next around r w a);
      types = λ around r w a. (λ i. member_stands known.kind m around (past_counts expression d around r) (back around w) (here around r w a) i ∷ others.types around (past_member (past_counts expression d around r)) w (next around r w a) i);
    })) in
    rest (second_empty declared.broken _ h)

-- ---- structs

-- what a struct leaves
pub record StructWell (tag : List ℕ) (all : List Decl) (old new : State) : Type 0 where
  pub on : Front (meanings_of old.notes) (meanings_of new.notes)
  pub functions : new.scope.functions ≡ old.scope.functions
  pub variables : new.scope.variables ≡ old.scope.variables
  pub begins : Begins old.scope.structs new.scope.structs
  pub types : List CType
  pub structs : structs_seen new.scope.structs ≡ record { number = length old.scope.structs; members = types } ∷ structs_seen old.scope.structs
  pub tags_more : tags new.scope.structs ≡ tags old.scope.structs ++ (tag ∷ [])
  pub members_more : map (λ (s : StructInfo). member_names s.members) new.scope.structs ≡ map (λ (s : StructInfo). member_names s.members) old.scope.structs ++ (names_of all ∷ [])
  pub at : (around : Around) (r : Reached) → Front (meanings_of new.notes) around.meanings → IsAt r (meanings_of old.notes) → IsAt (declared_all expression past_member all around r).after (meanings_of new.notes)
  pub found : (around : Around) (r : Reached) → Front (meanings_of new.notes) around.meanings → IsAt r (meanings_of old.notes) → (declared_all expression past_member all around r).types ≡ types

closes_well : (tag : List ℕ) (all : List Decl) (old : State) (g : Gathered) → MembersWell [] all (open_in tag old) g.members g.state → (s : StructInfo) → s.tag ≡ tag → s.members ≡ g.members → (new : State) → new.notes ≡ g.state.notes → new.scope.functions ≡ g.state.scope.functions → new.scope.variables ≡ g.state.scope.variables
    → new.scope.structs ≡ slice_set g.state.scope.structs (length old.scope.structs) s → StructWell tag all old new
closes_well tag all old g w s p q new notes functions variables structs =
    let here : new.scope.structs ≡ old.scope.structs ++ (s ∷ []) = structs ∙ (ap (λ l. slice_set l (length old.scope.structs) s) w.structs ∙ set_last old.scope.structs (open_struct tag) s) in
    let types : kinds_in s.members ≡ kinds_in w.others = ap kinds_in (q ∙ w.members) in
    let back = λ (around : Around) (f : Front (meanings_of new.notes) around.meanings). subst (λ n. Front (meanings_of n) around.meanings) notes f in record {
      on = subst (λ n. Front (meanings_of old.notes) (meanings_of n)) (sym notes) w.on;
      functions = functions ∙ w.functions;
      variables = variables ∙ w.variables;
      begins = record { more = s ∷ []; is = here };
      types = kinds_in w.others;
      structs = ap structs_seen here ∙ (seen_last old.scope.structs s ∙ ap (λ ts. record { number = length old.scope.structs; members = ts } ∷ structs_seen old.scope.structs) types);
      tags_more = ap tags here ∙ (map_last (λ (x : StructInfo). x.tag) old.scope.structs s ∙ ap (λ t. tags old.scope.structs ++ (t ∷ [])) p);
      members_more = ap (map (λ (x : StructInfo). member_names x.members)) here ∙ (map_last (λ (x : StructInfo). member_names x.members) old.scope.structs s
          ∙ ap (λ ns. map (λ (x : StructInfo). member_names x.members) old.scope.structs ++ (ns ∷ [])) (ap member_names (q ∙ w.members) ∙ w.names));
      at = λ around r f a. subst (λ n. IsAt (declared_all expression past_member all around r).after (meanings_of n)) (sym notes) (w.at around r (back around f) a);
      found = λ around r f a. w.types around r (back around f) a;
    }

well_by : (known : Bool) (tag : List ℕ) (all : List Decl) (place : Place) (old : State) → (struct_by known tag all place old).broken ≡ [] → StructWell tag all old (struct_by known tag all place old).state
well_by true tag all place old h = absurd (some_broken (gathered [] all old).broken _ _ h)
  where
    some_broken : {X : Type 0} (xs : List X) (y : X) (ys : List X) → xs ++ (y ∷ ys) ≡ [] → ⊥
    some_broken [] y ys e = cc
    some_broken (x ∷ xs) y ys e = cc
well_by false tag all place old h = let g = gathered [] all (open_in tag old) in
    closes_well tag all old g (gathers_well [] all (open_in tag old) (first_empty g.broken _ h)) _ refl refl _ refl refl refl refl

pub struct_well : (tag : List ℕ) (all : List Decl) (place : Place) (old : State) → (struct_walk tag all place old).broken ≡ [] → StructWell tag all old (struct_walk tag all place old).state
struct_well tag all place old h = well_by (is_some (tag_at old.scope tag)) tag all place old h
