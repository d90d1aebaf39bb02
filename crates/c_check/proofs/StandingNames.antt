-- What is known stands behind a declaration.
use Rattle.std.proofs.Common.{◌≡◌, ℕ, ◌+◌, ◌≤◌, refl, sym, ap, ◌∙◌, subst, Bool, true, false, is_some, Option, None, Some, List, [], ◌∷◌, map, length, length-set, arith}
use Rattle.std.proofs.lemmas.List.{length_push}
use Rattle.c_tree.specs.declared.tree.Decl.{Decl}
use Rattle.c_tree.specs.Count as count
use Rattle.c_tree.specs.Stars as star
use Rattle.c_types.specs.Types.{CType}
use Rattle.c_check_rules.specs.declared.names.Scope.{Scope}
use Rattle.c_check_rules.specs.declared.names.StructInfo.{StructInfo}
use Rattle.c_check_rules.specs.declared.names.Variable.{Variable}
use Rattle.c_check_rules.specs.declared.names.Function.{Function}
use Rattle.c_check_rules.specs.declared.names.Local.{Local}
use Rattle.c_check_rules.specs.declared.names.Member.{Member}
use Rattle.c_check_rules.specs.Names.{variable_at, function_at}
use Rattle.c_check_rules.specs.Sizes.{is_sized, is_within}
use Rattle.c_check_typing.specs.Refusals.{all_at}
use Rattle.c_check_typing.specs.Rules.{base_kind, starred}
use Rattle.c_check_statements.specs.declared.counts.Counts.{Counts}
use Rattle.c_check_statements.specs.declared.decls.Use.{Use}
use Rattle.c_check_statements.specs.declared.decls.Use.TheVariants as u
use Rattle.c_check_statements.specs.declared.state.State.{State}
use Rattle.c_check_statements.specs.Counts.{no_counts, arrayed}
use Rattle.c_check_statements.specs.Declarations.{plain_kind, plain_of, kind_of, decl_kinds, accepted, introduced, counts_of, after_counts, declares, member_noted, with_local, local_declared, parameter_declared, put_variable, with_variable, global_declared, put_function, with_function, function_declared}
use Rattle.c_check_statements.specs.Structs.{member_declared}
use Rattle.c_check.specs.Standing.{layers_of}
use Rattle.c_check.proofs.Emptied.{first_empty, second_empty, none_at}
use Rattle.c_check.proofs.Growing.{same_value}
use Rattle.c_check.proofs.Standing.{Each, each_pushed, each_set, IfKnown, StandsBy, ValueBy, stands_more, starred_stands, arrayed_within, arrayed_layers}
use Rattle.c_check.proofs.StandingScopes.{base_known, IsCore}
use Rattle.c_check.proofs.StandingDeclarations.{counts_long, GoodCounts, counts_good, IsValue, use_sized, KindParts, kind_parts, kind_made}
use Rattle.c_check.proofs.StandingWalks.{weight, Good, good_more, Keeps, goes_after}

-- ---- the type

abbrev count_nodes : Decl → ℕ
count_nodes d = count.total (map count.expr_nodes d.counts)

plain_by : (structs : List StructInfo) (stars : ℕ) (p : CType) (base : Option CType) → IfKnown (IsCore structs) base → stars ≤ 255 → plain_kind stars base ≡ Some p → StandsBy 255 structs p
plain_by structs stars p None h le e = cc
plain_by structs stars p (Some t) h le e = subst (StandsBy 255 structs) (same_value (starred stars t) p e) (starred_stands 255 structs stars t h.0 h.1 le)

plain_stands : (scope : Scope) (d : Decl) (p : CType) → d.stars ≤ 255 → plain_of scope d ≡ Some p → StandsBy 255 scope.structs p
plain_stands scope d p le e = plain_by scope.structs d.stars p (base_kind scope d.base) (base_known scope d.base) le e

module _ (scope : Scope) (usage : Use) (d : Decl) (counts : Option Counts) (k : CType) (le : d.stars ≤ 255) (h : KindParts scope usage d counts k) (most : ℕ) where
  value_kind : IsValue usage → counts_long counts ≤ count_nodes d → 255 + count_nodes d ≤ most → ValueBy most scope.structs k
  value_kind v long at =
      let plain = plain_stands scope d h.plain le h.plain_is in
      let sized = h.sized (use_sized usage scope.structs h.plain v h.fits) in
      let whole : is_sized scope.structs (arrayed h.values.values h.plain) ≡ true = ap (is_sized scope.structs) h.arrayed_is ∙ sized in
      let within : is_within scope.structs k ≡ true = ap (is_within scope.structs) (sym h.arrayed_is) ∙ arrayed_within scope.structs h.values.values h.plain plain.0 whole in
      let layers : layers_of k ≡ length h.values.values + layers_of h.plain = ap layers_of (sym h.arrayed_is) ∙ arrayed_layers h.values.values h.plain in
      let same : counts_long counts ≡ length h.values.values = ap counts_long h.values_is in
      let few = plain.1 in
      ((within, omega (arith, layers, same, few, long, at)), sized)

  none_long : (values : List ℕ) (t : CType) → length values ≤ 0 → arrayed values t ≡ t
  none_long [] t g = refl
  none_long (n ∷ more) t g = absurd (omega arith)

  result_kind : counts_long counts ≤ 0 → 255 ≤ most → StandsBy most scope.structs k
  result_kind long at =
      let same : counts_long counts ≡ length h.values.values = ap counts_long h.values_is in
      let is : h.plain ≡ k = sym (none_long h.values.values h.plain (omega (arith, same, long))) ∙ h.arrayed_is in
      subst (StandsBy most scope.structs) is (stands_more 255 most scope.structs at h.plain (plain_stands scope d h.plain le h.plain_is))

-- ---- a declaration

abbrev Fact : Type 1
Fact = (most : ℕ) → List StructInfo → CType → Type 0

abbrev Introduces : Fact → (CType → State → State) → Type 0
Introduces fact introduce = (m : ℕ) (k : CType) (state : State) → fact (255 + (m + 1)) state.scope.structs k → Good m state → Keeps (m + 1) state (introduce k state)

-- the type of a declaration has this fact
abbrev Gives : Fact → Use → Decl → Type 0
Gives fact usage d = (scope : Scope) (counts : Option Counts) (k : CType) (most : ℕ) → KindParts scope usage d counts k → counts_long counts ≤ count_nodes d → 255 + count_nodes d ≤ most → fact most scope.structs k

gives_value : (usage : Use) (d : Decl) → IsValue usage → star.decl_stars d ≤ 255 → Gives ValueBy usage d
gives_value usage d v le scope counts k most h long at = value_kind scope usage d counts k (omega (arith, le)) h most v long at

gives_result : (d : Decl) → d.counts ≡ [] → star.decl_stars d ≤ 255 → Gives StandsBy u.Result d
gives_result d e le scope counts k most h long at =
    let none : count_nodes d ≡ 0 = ap (λ xs. count.total (map count.expr_nodes xs)) e in
    result_kind scope u.Result d counts k (omega (arith, le)) h most (omega (arith, none, long)) (omega (arith, at))

by_kind : (fact : Fact) (introduce : CType → State → State) → Introduces fact introduce → (m top : ℕ) → m + 1 ≤ top → (state : State) (k : Option CType) → ((x : CType) → k ≡ Some x → fact (255 + (m + 1)) state.scope.structs x) → Good m state
    → Keeps top state (introduced introduce k state)
by_kind fact introduce h m top le state None f g = (good_more m top state (omega (arith, le)) g, refl)
by_kind fact introduce h m top le state (Some k) f g = let next = h m k state (f k refl) g in (good_more (m + 1) top (introduce k state) le next.0, next.1)

module _ (usage : Use) (twice : Scope → Option CType → Bool) (wrong : Bool) (introduce : CType → State → State) (d : Decl) (stars : star.decl_stars d ≤ 255) where
  counts_are : (m : ℕ) (state : State) → Good m state → GoodCounts state.scope.structs (255 + m) (count_nodes d) (Some no_counts) (counts_of state d)
  counts_are m state g = counts_good state.scope (255 + m) (omega arith) g.scope d.counts (omega (arith, stars)) (Some no_counts)

  kind_is : (fact : Fact) → Gives fact usage d → (m : ℕ) (state : State) → Good m state → (most : ℕ) → 255 + count_nodes d ≤ most → (k : CType) → (declares usage twice wrong introduce d state).kind ≡ Some k → fact most state.scope.structs k
  unfolding declares
  kind_is fact gives m state g most le k e =
      let long = (counts_are m state g).long in
      gives state.scope (counts_of state d).counts k most (kind_parts state.scope usage (twice state.scope (kind_of state.scope d (counts_of state d).counts)) wrong d (counts_of state d).counts k e) (omega (arith, long)) le

  goes_declares : (fact : Fact) → Gives fact usage d → Introduces fact introduce → (m top : ℕ) (state : State) → m + count.decl_nodes d ≤ top → Good m state → Keeps top state (declares usage twice wrong introduce d state).state
  unfolding declares kind_is
  goes_declares fact gives introduces m top state at g =
      let counts = counts_are m state g in
      let after = goes_after (count_nodes d) m (m + count_nodes d) (counts_of state d).after state (omega arith) counts.after g in
      by_kind fact introduce introduces (m + count_nodes d) top (omega (arith, at)) (after_counts state d) _ (λ k e. kind_is fact gives m state g (255 + (m + count_nodes d + 1)) (omega arith) k e) after.0

  declares_whole : (m : ℕ) (state : State) → Good m state → (declares usage twice wrong introduce d state).broken ≡ [] → is_some (declares usage twice wrong introduce d state).kind ≡ true
  unfolding declares
  declares_whole m state g e =
      let kinds = decl_kinds state.scope usage (twice state.scope (kind_of state.scope d (counts_of state d).counts)) wrong d (counts_of state d).counts in
      kind_made state.scope usage (twice state.scope (kind_of state.scope d (counts_of state d).counts)) wrong d (counts_of state d).counts
      ((counts_are m state g).whole (first_empty (counts_of state d).broken (all_at d.place kinds) e) refl) kinds refl (none_at d.place kinds (second_empty (counts_of state d).broken (all_at d.place kinds) e))

-- ---- members

introduces_member : Introduces ValueBy member_noted
introduces_member m k state v g =
    let w = good_more m (m + 1) state (omega arith) g in
    let few = g.few in
    let long = length_push state.notes.declared k in
    let good : Good (m + 1) (member_noted k state) = record {
      scope = w.scope;
      notes = record { kinds = w.notes.kinds; declared = each_pushed (StandsBy (255 + (m + 1)) state.scope.structs) state.notes.declared k w.notes.declared v.0 };
      bodies = w.bodies;
      few = omega (arith, few, long);
    } in
    (good, refl)

pub goes_member : (members : List Member) (d : Decl) → star.decl_stars d ≤ 255 → (m top : ℕ) (state : State) → m + count.decl_nodes d ≤ top → Good m state → Keeps top state (member_declared members d state).state
goes_member members d le = goes_declares u.Variable _ _ _ d le ValueBy (gives_value u.Variable d tt le) introduces_member

pub member_value : (members : List Member) (d : Decl) → star.decl_stars d ≤ 255 → (m : ℕ) (state : State) → Good m state → (k : CType) → (member_declared members d state).kind ≡ Some k → ValueBy (255 + (m + count.decl_nodes d)) state.scope.structs k
member_value members d le m state g k e = kind_is u.Variable _ _ _ d le ValueBy (gives_value u.Variable d tt le) m state g (255 + (m + count.decl_nodes d)) (omega arith) k e

pub member_whole : (members : List Member) (d : Decl) → star.decl_stars d ≤ 255 → (m : ℕ) (state : State) → Good m state → (member_declared members d state).broken ≡ [] → is_some (member_declared members d state).kind ≡ true
member_whole members d le m state g e = declares_whole u.Variable _ _ _ d le m state g e

-- a member adds a type for each of its nodes at most
introduced_weight : (state : State) (k : Option CType) → weight (introduced member_noted k state) ≤ weight state + 1
introduced_weight state None = omega arith
introduced_weight state (Some k) = omega (arith, length_push state.notes.declared k)

declares_weight : (twice : Scope → Option CType → Bool) (d : Decl) → star.decl_stars d ≤ 255 → (m : ℕ) (state : State) → Good m state → weight (declares u.Variable twice false member_noted d state).state ≤ weight state + count.decl_nodes d
unfolding declares
declares_weight twice d le m state g =
    let after = (counts_are u.Variable twice false member_noted d le m state g).after in
    let long = after.long state.notes in
    let same : length ((counts_of state d).after state.notes).declared ≡ length state.notes.declared = ap length (after.declared state.notes) in
    let more = introduced_weight (after_counts state d) (accepted (decl_kinds state.scope u.Variable (twice state.scope (kind_of state.scope d (counts_of state d).counts)) false d (counts_of state d).counts) (kind_of state.scope d (counts_of state d).counts)) in
    omega (arith, long, same, more)

pub member_weight : (members : List Member) (d : Decl) → star.decl_stars d ≤ 255 → (m : ℕ) (state : State) → Good m state → weight (member_declared members d state).state ≤ weight state + count.decl_nodes d
member_weight members d le m state g = declares_weight _ d le m state g

-- ---- parameters and locals

introduces_local : (name : List ℕ) → Introduces ValueBy (with_local name)
introduces_local name m k state v g =
    let w = good_more m (m + 1) state (omega arith) g in
    let few = g.few in
    let long = length_push state.notes.declared k in
    let made = length_push state.scope.made k in
    let good : Good (m + 1) (with_local name k state) = record {
      scope = record {
        members = w.scope.members;
        variables = w.scope.variables;
        functions = w.scope.functions;
        locals = each_pushed (λ (x : Local). StandsBy (255 + (m + 1)) state.scope.structs x.kind) state.scope.locals _ w.scope.locals v.0;
        made = each_pushed (ValueBy (255 + (m + 1)) state.scope.structs) state.scope.made k w.scope.made v;
      };
      notes = record { kinds = w.notes.kinds; declared = each_pushed (StandsBy (255 + (m + 1)) state.scope.structs) state.notes.declared k w.notes.declared v.0 };
      bodies = w.bodies;
      few = omega (arith, few, long, made);
    } in
    (good, refl)

pub goes_local : (d : Decl) → star.decl_stars d ≤ 255 → (m top : ℕ) (state : State) → m + count.decl_nodes d ≤ top → Good m state → Keeps top state (local_declared d state).state
goes_local d le = goes_declares u.Variable _ _ _ d le ValueBy (gives_value u.Variable d tt le) (introduces_local d.name)

pub goes_parameter : (d : Decl) → star.decl_stars d ≤ 255 → (m top : ℕ) (state : State) → m + count.decl_nodes d ≤ top → Good m state → Keeps top state (parameter_declared d state).state
goes_parameter d le = goes_declares u.Parameter _ _ _ d le ValueBy (gives_value u.Parameter d tt le) (introduces_local d.name)

-- ---- global variables

put_variables : (P : Variable → Type 0) (xs : List Variable) (at : Option ℕ) (v : Variable) → Each P xs → P v → Each P (put_variable xs at v)
put_variables P xs None v h p = each_pushed P xs v h p
put_variables P xs (Some at) v h p = each_set P xs at v h p

put_long : (xs : List Variable) (at : Option ℕ) (v : Variable) → length (put_variable xs at v) ≤ length xs + 1
put_long xs None v = omega (arith, length_push xs v)
put_long xs (Some at) v = omega (arith, length-set xs at v)

introduces_variable : (name : List ℕ) (defined : Bool) → Introduces ValueBy (with_variable name defined)
introduces_variable name defined m k state v g =
    let w = good_more m (m + 1) state (omega arith) g in
    let few = g.few in
    let x : Variable = record { name = name; kind = k; defined = defined } in
    let long = length_push state.notes.declared k in
    let more = put_long state.scope.variables (variable_at state.scope name) x in
    let good : Good (m + 1) (with_variable name defined k state) = record {
      scope = record {
        members = w.scope.members;
        variables = put_variables (λ (x : Variable). ValueBy (255 + (m + 1)) state.scope.structs x.kind) state.scope.variables (variable_at state.scope name) x w.scope.variables v;
        functions = w.scope.functions;
        locals = w.scope.locals;
        made = w.scope.made;
      };
      notes = record { kinds = w.notes.kinds; declared = each_pushed (StandsBy (255 + (m + 1)) state.scope.structs) state.notes.declared k w.notes.declared v.0 };
      bodies = w.bodies;
      few = omega (arith, few, long, more);
    } in
    (good, refl)

pub goes_global : (defined : Bool) (d : Decl) → star.decl_stars d ≤ 255 → (m top : ℕ) (state : State) → m + count.decl_nodes d ≤ top → Good m state → Keeps top state (global_declared defined d state).state
goes_global defined d le = goes_declares u.Variable _ _ _ d le ValueBy (gives_value u.Variable d tt le) (introduces_variable d.name defined)

-- ---- functions

put_functions : (P : Function → Type 0) (xs : List Function) (at : Option ℕ) (v : Function) → Each P xs → P v → Each P (put_function xs at v)
put_functions P xs None v h p = each_pushed P xs v h p
put_functions P xs (Some at) v h p = each_set P xs at v h p

introduces_function : (name : List ℕ) (params : List Decl) (defined : Bool) → Introduces StandsBy (with_function name params defined)
introduces_function name params defined m k state v g =
    let w = good_more m (m + 1) state (omega arith) g in
    let few = g.few in
    let long = length_push state.notes.declared k in
    let good : Good (m + 1) (with_function name params defined k state) = record {
      scope = record {
        members = w.scope.members;
        variables = w.scope.variables;
        functions = put_functions (λ (x : Function). StandsBy (255 + (m + 1)) state.scope.structs x.result) state.scope.functions (function_at state.scope name) _ w.scope.functions v;
        locals = w.scope.locals;
        made = w.scope.made;
      };
      notes = record { kinds = w.notes.kinds; declared = each_pushed (StandsBy (255 + (m + 1)) state.scope.structs) state.notes.declared k w.notes.declared v };
      bodies = w.bodies;
      few = omega (arith, few, long);
    } in
    (good, refl)

pub goes_function : (defined : Bool) (params : List Decl) (d : Decl) → d.counts ≡ [] → star.decl_stars d ≤ 255 → (m top : ℕ) (state : State) → m + count.decl_nodes d ≤ top → Good m state
    → Keeps top state (function_declared defined params d state).state
goes_function defined params d e le = goes_declares u.Result _ _ _ d le StandsBy (gives_result d e le) (introduces_function d.name params defined)
