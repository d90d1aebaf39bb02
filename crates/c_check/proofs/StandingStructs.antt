-- What is known stands behind a struct that breaks no rule, and the struct is laid.
use Rattle.std.proofs.Common.{◌≡◌, ℕ, zero, suc, ◌+◌, ◌≤◌, refl, sym, ap, ◌∙◌, subst, subst₂, Bool, true, false, not, is_some, Option, None, Some, List, [], ◌∷◌, ◌++◌, map, length, slice_get, slice_set, ◌⊎◌, inl, inr, ⊎_elim, append_assoc, arith}
use Rattle.std.proofs.lemmas.List.{length_push}
use Rattle.std.proofs.lemmas.List.Elements.{All-from_recursion}
use Rattle.mx_base.specs.declared.places.Place.{Place}
use Rattle.c_tree.specs.declared.tree.Decl.{Decl}
use Rattle.c_tree.specs.Count as count
use Rattle.c_tree.specs.Stars as star
use Rattle.c_types.specs.Types.{CType}
use Rattle.c_check_rules.specs.declared.names.StructInfo.{StructInfo}
use Rattle.c_check_rules.specs.declared.names.Member.{Member}
use Rattle.c_check_rules.specs.declared.names.Variable.{Variable}
use Rattle.c_check_rules.specs.declared.names.Function.{Function}
use Rattle.c_check_rules.specs.declared.names.Local.{Local}
use Rattle.c_check_rules.specs.Names.{tag_at}
use Rattle.c_check_typing.specs.declared.fault.CheckKind.TheVariants.{Twice, BadCount}
use Rattle.c_check_typing.specs.Refusals.{breaks, all_at}
use Rattle.c_check_statements.specs.declared.state.State.{State}
use Rattle.c_check_statements.specs.declared.state.Body.{Body}
use Rattle.c_check_statements.specs.Structs.{member_declared, with_member, Gathered, gathered, open_struct, with_struct, kinds_in, scalars_sum, laid_struct, closed_struct, closed, close, struct_by, struct_walk}
use Rattle.c_check.specs.Standing.{HoldsValues, IsLaid, AreLaid, members_in_all}
use Rattle.c_check.proofs.Emptied.{first_empty, second_empty, none_at, not_broken}
use Rattle.c_check.proofs.Growing.{value_of, same_value, Grows, more_structs, closed_structs}
use Rattle.c_check.proofs.Standing.{Each, each_pushed, each_other, StandsBy, ValueBy, value_more, stands_grows, value_grows}
use Rattle.c_check.proofs.StandingDeclarations.{truth}
use Rattle.c_check.proofs.StandingNames.{goes_member, member_value, member_whole, member_weight}
use Rattle.c_check.proofs.StandingScopes.{MembersBy, members_more}
use Rattle.c_check.proofs.StandingWalks.{VariableBy, BodyBy, weight, Good, good_more, Keeps}

-- ---- members

abbrev MemberBy : (most : ℕ) → List StructInfo → Member → Type 0
MemberBy most structs x = ValueBy most structs x.kind

-- members that were gathered behind those before
record Gathers (top : ℕ) (before : List Member) (all : List Decl) (state : State) (g : Gathered) : Type 0 where
  keeps : Keeps top state g.state
  members : Each (MemberBy (255 + top) state.scope.structs) g.members
  few : weight g.state + length g.members ≤ weight state + length before + (count.total (map count.decl_nodes all) + count.total (map count.decl_nodes all))
  long : length g.members ≤ length before + count.total (map count.decl_nodes all)
  whole : g.broken ≡ [] → length before + length all ≤ length g.members

members_by_more : (most more : ℕ) (structs : List StructInfo) (all : List Member) → most ≤ more → Each (MemberBy most structs) all → Each (MemberBy more structs) all
members_by_more most more structs all le h = each_other (MemberBy most structs) (MemberBy more structs) (λ x. value_more most more structs le x.kind) all h

with_each : (most : ℕ) (structs : List StructInfo) (name : List ℕ) (k : Option CType) (all : List Member) → ((t : CType) → k ≡ Some t → ValueBy most structs t) → Each (MemberBy most structs) all → Each (MemberBy most structs) (with_member name k all)
with_each most structs name None all f h = h
with_each most structs name (Some t) all f h = each_pushed (MemberBy most structs) all _ h (f t refl)

with_long : (name : List ℕ) (k : Option CType) (all : List Member) → length (with_member name k all) ≤ length all + 1
with_long name None all = omega arith
with_long name (Some t) all = omega (arith, length_push all (record { name = name; kind = t }))

with_whole : (name : List ℕ) (k : Option CType) (all : List Member) → is_some k ≡ true → length all + 1 ≤ length (with_member name k all)
with_whole name None all h = cc
with_whole name (Some t) all h = omega (arith, length_push all (record { name = name; kind = t }))

goes_gathered : (all : List Decl) → star.most (map star.decl_stars all) ≤ 255 → (m top : ℕ) (before : List Member) (state : State) → m + count.total (map count.decl_nodes all) ≤ top → Good m state → Each (MemberBy (255 + m) state.scope.structs) before
    → Gathers top before all state (gathered before all state)
goes_gathered [] le m top before state at g h = record {
  keeps = (good_more m top state (omega (arith, at)) g, refl);
  members = members_by_more (255 + m) (255 + top) state.scope.structs before (omega (arith, at)) h;
  few = omega arith;
  long = omega arith;
  whole = λ e. omega arith;
}
goes_gathered (d ∷ more) le m top before state at g h =
    let one = goes_member before d (omega arith) m (m + count.decl_nodes d) state (omega arith) g in
    let kind = (member_declared before d state).kind in
    let next : State = (member_declared before d state).state in
    let these = with_each (255 + (m + count.decl_nodes d)) state.scope.structs d.name kind before (λ t e. member_value before d (omega arith) m state g t e)
    (members_by_more (255 + m) (255 + (m + count.decl_nodes d)) state.scope.structs before (omega arith) h) in
    let rest = goes_gathered more (omega arith) (m + count.decl_nodes d) top (with_member d.name kind before) next (omega (arith, at)) one.0
    (subst (λ structs. Each (MemberBy (255 + (m + count.decl_nodes d)) structs) (with_member d.name kind before)) (sym one.1) these) in
    let added = member_weight before d (omega arith) m state g in
    let longer = with_long d.name kind before in
    let few = rest.few in
    let long = rest.long in
    record {
      keeps = (rest.keeps.0, rest.keeps.1 ∙ one.1);
      members = subst (λ structs. Each (MemberBy (255 + top) structs) (gathered (with_member d.name kind before) more next).members) one.1 rest.members;
      few = omega (arith, few, added, longer);
      long = omega (arith, long, longer);
      whole = λ e. (let others = rest.whole (second_empty (member_declared before d state).broken _ e) in
          let here = with_whole d.name kind before (member_whole before d (omega arith) m state g (first_empty (member_declared before d state).broken _ e)) in omega (arith, others, here));
    }

-- ---- states with other structs

abbrev with_structs : List StructInfo → State → State
with_structs new state = record state { scope = record state.scope { structs = new } }

good_grows : (m top : ℕ) (state : State) (new : List StructInfo) → m ≤ top → Grows state.scope.structs new → MembersBy (255 + top) new → weight (with_structs new state) ≤ top + top → Good m state → Good top (with_structs new state)
good_grows m top state new le grows members few g =
    let w = good_more m top state le g in
    let old = state.scope.structs in
    record {
      scope = record {
        members = members;
        variables = each_other (λ (x : Variable). ValueBy (255 + top) old x.kind) (λ (x : Variable). ValueBy (255 + top) new x.kind) (λ x. value_grows (255 + top) old new grows x.kind) state.scope.variables w.scope.variables;
        functions = each_other (λ (x : Function). StandsBy (255 + top) old x.result) (λ (x : Function). StandsBy (255 + top) new x.result) (λ x. stands_grows (255 + top) old new grows x.result) state.scope.functions w.scope.functions;
        locals = each_other (λ (x : Local). StandsBy (255 + top) old x.kind) (λ (x : Local). StandsBy (255 + top) new x.kind) (λ x. stands_grows (255 + top) old new grows x.kind) state.scope.locals w.scope.locals;
        made = each_other (ValueBy (255 + top) old) (ValueBy (255 + top) new) (value_grows (255 + top) old new grows) state.scope.made w.scope.made;
      };
      notes = record {
        kinds = each_other (StandsBy (255 + top) old) (StandsBy (255 + top) new) (stands_grows (255 + top) old new grows) state.notes.kinds w.notes.kinds;
        declared = each_other (StandsBy (255 + top) old) (StandsBy (255 + top) new) (stands_grows (255 + top) old new grows) state.notes.declared w.notes.declared;
      };
      bodies = each_other (BodyBy (255 + top) old) (BodyBy (255 + top) new) (λ (x : Body). each_other (VariableBy (255 + top) old) (VariableBy (255 + top) new) (λ v. value_grows (255 + top) old new grows v.kind) x.variables) state.bodies w.bodies;
      few = few;
    }

-- the last of some structs, or an earlier one
got_last : (xs : List StructInfo) (s : StructInfo) (n : ℕ) (info : StructInfo) → slice_get (xs ++ s ∷ []) n ≡ Some info → (slice_get xs n ≡ Some info) ⊎ (s ≡ info)
got_last [] s zero info h = inr (same_value s info h)
got_last [] s (suc n) info h = cc
got_last (x ∷ xs) s zero info h = inl h
got_last (x ∷ xs) s (suc n) info h = got_last xs s n info h

members_joined : (most : ℕ) (xs : List StructInfo) (s : StructInfo) → MembersBy most xs → Each (λ (x : Member). StandsBy most (xs ++ s ∷ []) x.kind) s.members → MembersBy most (xs ++ s ∷ [])
members_joined most xs s h g n info e = ⊎_elim
    (λ old. each_other (λ (x : Member). StandsBy most xs x.kind) (λ (x : Member). StandsBy most (xs ++ s ∷ []) x.kind) (λ x. stands_grows most xs (xs ++ s ∷ []) (more_structs xs (s ∷ [])) x.kind) info.members (h n info old))
    (λ same. subst (λ (i : StructInfo). Each (λ (x : Member). StandsBy most (xs ++ s ∷ []) x.kind) i.members) same g)
    (got_last xs s n info e)

members_more_by : (xs : List StructInfo) (s : StructInfo) → members_in_all (xs ++ s ∷ []) ≡ members_in_all xs + length s.members
members_more_by [] s = omega arith
members_more_by (x ∷ xs) s = let rest = members_more_by xs s in omega (arith, rest)

last_set : (xs : List StructInfo) (a s : StructInfo) → slice_set (xs ++ a ∷ []) (length xs) s ≡ xs ++ s ∷ []
last_set [] a s = refl
last_set (x ∷ xs) a s = ap (λ ys. x ∷ ys) (last_set xs a s)

laid_joined : (before xs : List StructInfo) (s : StructInfo) → AreLaid before xs → IsLaid (before ++ xs) s → AreLaid before (xs ++ s ∷ [])
laid_joined before [] s h g = (subst (λ ys. IsLaid ys s) (nothing_more before) g, tt)
  where
    nothing_more : (ys : List StructInfo) → ys ++ [] ≡ ys
    nothing_more [] = refl
    nothing_more (y ∷ ys) = ap (λ zs. y ∷ zs) (nothing_more ys)
laid_joined before (x ∷ xs) s h g = (h.0, laid_joined (before ++ x ∷ []) xs s h.1 (subst (λ ys. IsLaid ys s) (sym (append_assoc before (x ∷ []) xs)) g))

-- ---- the struct

each_kind : (structs : List StructInfo) (most : ℕ) → most ≤ 33023 → (all : List Member) → Each (MemberBy most structs) all → Each (HoldsValues structs) (kinds_in all)
each_kind structs most le [] h = tt
each_kind structs most le (x ∷ more) h = (value_more most 33023 structs le x.kind h.0, each_kind structs most le more h.1)

opened_good : (m : ℕ) (tag : List ℕ) (state : State) → Good m state → Good m (with_struct tag state)
opened_good m tag state g =
    let few = g.few in
    good_grows m m state (state.scope.structs ++ open_struct tag ∷ []) (omega arith) (more_structs state.scope.structs (open_struct tag ∷ []))
    (members_joined (255 + m) state.scope.structs (open_struct tag) g.scope.members tt) (omega (arith, few, members_more_by state.scope.structs (open_struct tag))) g

-- what is known behind a struct that breaks no rule
record Closes (top : ℕ) (state : State) : Type 0 where
  laid : AreLaid [] state.scope.structs
  good : Good top state

module _ (m top : ℕ) (tag : List ℕ) (members : List Decl) (state : State) (within : top ≤ 32768) (laid : AreLaid [] state.scope.structs) (good : Good m state) (g : Gathered) (h : Gathers top [] members (with_struct tag state) g) where
  abbrev opened : List StructInfo
  opened = state.scope.structs ++ open_struct tag ∷ []

  abbrev number : ℕ
  number = length state.scope.structs

  abbrev made_struct : StructInfo
  made_struct = closed_struct tag (laid_struct g.state.scope.structs g.members) (scalars_sum g.state.scope.structs 0 (kinds_in g.members)) g.members

  set_is : slice_set g.state.scope.structs number made_struct ≡ state.scope.structs ++ made_struct ∷ []
  set_is = ap (λ xs. slice_set xs number made_struct) h.keeps.1 ∙ last_set state.scope.structs (open_struct tag) made_struct

  struct_laid_so : is_some (laid_struct g.state.scope.structs g.members) ≡ true → 1 ≤ length members → g.broken ≡ [] → length g.members ≤ 32768 → IsLaid state.scope.structs made_struct
  struct_laid_so some least none few =
      let layout = value_of (laid_struct g.state.scope.structs g.members) some in
      let whole = h.whole none in
      record {
        members = All-from_recursion (HoldsValues opened) (kinds_in g.members) (each_kind opened (255 + top) (omega (arith, within)) g.members h.members);
        some = omega (arith, whole, least);
        few = few;
        layout = layout.0;
        laid = layout.1;
        by_members = ap (λ structs. laid_struct structs g.members) (sym h.keeps.1) ∙ layout.1;
      }

  made_members : Each (λ (x : Member). StandsBy (255 + top) (state.scope.structs ++ made_struct ∷ []) x.kind) g.members
  made_members = each_other (MemberBy (255 + top) opened) (λ (x : Member). StandsBy (255 + top) (state.scope.structs ++ made_struct ∷ []) x.kind)
      (λ x v. stands_grows (255 + top) opened (state.scope.structs ++ made_struct ∷ []) (closed_structs state.scope.structs tag made_struct) x.kind v.0) g.members h.members

  closed_good : m ≤ top → m + m + (count.total (map count.decl_nodes members) + count.total (map count.decl_nodes members)) ≤ top + top → Good top (closed number tag g.members g.state)
  closed_good le room =
      let grows = subst₂ Grows (sym h.keeps.1) (sym set_is) (closed_structs state.scope.structs tag made_struct) in
      let by = subst (MembersBy (255 + top)) (sym set_is) (members_joined (255 + top) state.scope.structs made_struct (members_more (255 + m) (255 + top) state.scope.structs (omega (arith, le)) good.scope.members) made_members) in
      let in_new : members_in_all (slice_set g.state.scope.structs number made_struct) ≡ members_in_all state.scope.structs + length g.members = ap members_in_all set_is ∙ members_more_by state.scope.structs made_struct in
      let in_old : members_in_all g.state.scope.structs ≡ members_in_all state.scope.structs + 0 = ap members_in_all h.keeps.1 ∙ members_more_by state.scope.structs (open_struct tag) in
      let in_open : members_in_all opened ≡ members_in_all state.scope.structs + 0 = members_more_by state.scope.structs (open_struct tag) in
      let few = h.few in
      let before = good.few in
      good_grows top top g.state (slice_set g.state.scope.structs number made_struct) (omega arith) grows by (omega (arith, in_new, in_old, in_open, few, before, room)) h.keeps.0

  closes : m ≤ top → m + count.total (map count.decl_nodes members) ≤ top → 1 ≤ length members → (place : Place) → (close number tag place g).broken ≡ [] → Closes top (close number tag place g).state
  closes le room least place none =
      let last = second_empty g.broken (all_at place (breaks BadCount (not (is_some (laid_struct g.state.scope.structs g.members))))) none in
      let some = truth (is_some (laid_struct g.state.scope.structs g.members)) (not_broken BadCount (not (is_some (laid_struct g.state.scope.structs g.members))) (none_at place _ last)) in
      let long = h.long in
      let new = struct_laid_so some least (first_empty g.broken _ none) (omega (arith, long, room, within)) in
      record {
        laid = subst (AreLaid []) (sym set_is) (laid_joined [] state.scope.structs made_struct laid new);
        good = closed_good le (omega (arith, room));
      }

by_known : (known : Bool) (tag : List ℕ) (members : List Decl) (place : Place) (m top : ℕ) (state : State) → star.most (map star.decl_stars members) ≤ 255 → m + count.total (map count.decl_nodes members) ≤ top → top ≤ 32768 → 1 ≤ length members
    → AreLaid [] state.scope.structs → Good m state → (struct_by known tag members place state).broken ≡ [] → Closes top (struct_by known tag members place state).state
by_known true tag members place m top state le at within least laid good none = absurd (not_twice (second_empty (gathered [] members state).broken (all_at place (Twice ∷ [])) none))
  where
    not_twice : all_at place (Twice ∷ []) ≡ [] → ⊥
    not_twice e = cc
by_known false tag members place m top state le at within least laid good none =
    closes m top tag members state within laid good (gathered [] members (with_struct tag state)) (goes_gathered members le m top [] (with_struct tag state) at (opened_good m tag state good) tt) (omega (arith, at)) at least place none

pub struct_closes : (tag : List ℕ) (members : List Decl) (place : Place) (m top : ℕ) (state : State) → star.most (map star.decl_stars members) ≤ 255 → m + count.total (map count.decl_nodes members) ≤ top → top ≤ 32768 → 1 ≤ length members
    → AreLaid [] state.scope.structs → Good m state → (struct_walk tag members place state).broken ≡ [] → AreLaid [] (struct_walk tag members place state).state.scope.structs × Good top (struct_walk tag members place state).state
struct_closes tag members place m top state le at within least laid good none =
    let c = by_known (is_some (tag_at state.scope tag)) tag members place m top state le at within least laid good none in (c.laid, c.good)
