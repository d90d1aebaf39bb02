-- Declarations without broken rules: their types are known, and the elaboration goes through them as the checker does.
use Rattle.std.proofs.Common.{◌≡◌, ℕ, refl, sym, ap, ◌∙◌, subst, Bool, true, false, not, ◌&&◌, List, [], ◌∷◌, ◌++◌, map, if◌then◌else◌}
use Rattle.std.specs.Prelude.{Option, None, Some, is_some}
use Rattle.c_tree.specs.declared.tree.Decl.{Decl}
use Rattle.c_tree.specs.declared.tree.Expr.{Expr}
use Rattle.c_types.specs.Types.{CType, Void}
use Rattle.c_check_rules.specs.declared.names.Scope.{Scope}
use Rattle.c_check_rules.specs.declared.predeclared.Bind.{Bind}
use Rattle.c_check_rules.specs.declared.predeclared.Bind.TheVariants.{Local}
use Rattle.c_check_typing.specs.declared.fault.CheckKind.TheVariants.{Unknown, Twice, BadCount, NotConst, BadType}
use Rattle.c_check_typing.specs.Refusals.{breaks}
use Rattle.c_check_typing.specs.Expressions.{seen}
use Rattle.c_check_typing.specs.Rules.{base_kind, starred}
use Rattle.c_check_statements.specs.declared.counts.Counts.{Counts}
use Rattle.c_check_statements.specs.declared.decls.Use.{Use}
use Rattle.c_check_statements.specs.declared.state.State.{State}
use Rattle.c_check_statements.specs.Counts.{no_counts, arrayed, count_after, next_counts, Counted, counted}
use Rattle.c_check_statements.specs.Declarations.{Declared, plain_of, misfits, plain_kind, kind_by, kind_of, decl_kinds, accepted, introduced, counts_of, after_counts, declares}
use Rattle.bounds_plan.specs.elaboration.Source.{Meanings, Reached, Around, declared_at, bind_at, past_declaration, past_member}
use Rattle.bounds_plan.specs.elaboration.Expressions.{expression, find_all}
use Rattle.bounds_plan.specs.elaboration.Statements.{past_counts}
use Rattle.c_accepted.specs.Alike.{IsAt, Front}
use Rattle.c_accepted.proofs.Empty.{first_empty, second_empty, none_at, not_broken, neither}
use Rattle.c_accepted.proofs.Going.{begins_itself, begins_with, got_behind, one_longer, Goes, goes_nowhere, goes_then}
use Rattle.c_accepted.proofs.Expressions.{expressions_alike}

-- ---- counts

pub record CountsGo (w : Counted) (p : Around → Reached → Reached) : Type 0 where
  pub counts : Counts
  pub is : w.counts ≡ Some counts
  pub goes : Goes w.after p

counted_go : (all : List Expr) (scope : Scope) (counts : Counts) → (counted scope (Some counts) all).broken ≡ [] → CountsGo (counted scope (Some counts) all) (λ around r. (find_all (map expression all) around r).after)
counted_go [] scope counts h = record { counts = counts; is = refl; goes = goes_nowhere }
counted_go (x ∷ more) scope counts h = let s = seen x false scope in let a = expressions_alike x false scope (first_empty s.broken _ h) in
    let rest = subst (λ o. (counted scope o more).broken ≡ [] → CountsGo (counted scope o more) (λ around r. (find_all (map expression more) around r).after)) (sym (ap (next_counts (Some counts)) a.is))
    (counted_go more scope (count_after counts a.typed)) (second_empty s.broken _ h) in
    record { counts = rest.counts; is = rest.is; goes = goes_then s.after (counted scope (next_counts (Some counts) s.typed) more).after _ _ a.goes rest.goes }

-- ---- types

record Known (kind : Option CType) : Type 0 where
  type : CType
  is : kind ≡ Some type

plain_counts : (o p q : Bool) → o ≡ false → p ≡ false → q ≡ false → (not o && (not p && not q)) ≡ true
plain_counts true p q h k l = cc
plain_counts false true q h k l = cc
plain_counts false false true h k l = cc
plain_counts false false false h k l = refl

kind_known : (base : Option CType) (stars : ℕ) (c : Counts) → not (is_some base) ≡ false → c.is_out ≡ false → c.is_open ≡ false → c.is_odd ≡ false → Known (kind_by (plain_kind stars base) (Some c))
kind_known None stars c b h k l = cc
kind_known (Some base) stars c b h k l = record { type = _; is = ap (λ t. if t then Some (arrayed c.values (starred stars base)) else None) (plain_counts c.is_out c.is_open c.is_odd h k l) }

no_rule : (scope : Scope) (usage : Use) (twice wrong : Bool) (d : Decl) (c : Counts) → decl_kinds scope usage twice wrong d (Some c) ≡ [] → Known (kind_of scope d (Some c))
no_rule scope usage twice wrong d c h =
    let a = second_empty (breaks Unknown _) _ h in let b = second_empty (breaks Twice _) _ a in let e = second_empty (breaks BadCount _) _ b in
    kind_known (base_kind scope d.base) d.stars c (not_broken Unknown _ (first_empty (breaks Unknown _) _ h))
    (neither c.is_out _ (not_broken BadCount _ (first_empty (breaks BadCount _) _ b))).0
    (not_broken NotConst _ (first_empty (breaks NotConst _) _ e))
    (neither c.is_odd _ (not_broken BadType _ (second_empty (breaks NotConst _) _ e))).0

-- ---- what is declared

pub record DeclaredWell (usage : Use) (twice : Scope → Option CType → Bool) (introduce : CType → State → State) (d : Decl) (state : State) (declared : Declared) : Type 0 where
  pub kind : CType
  pub is : declared.kind ≡ Some kind
  pub next : declared.state ≡ introduce kind (after_counts state d)
  pub goes : Goes (counts_of state d).after (past_counts expression d)
  pub counts : Counts
  pub counted : (counts_of state d).counts ≡ Some counts
  pub known : kind_of state.scope d (Some counts) ≡ Some kind
  pub once : twice state.scope (Some kind) ≡ false
  pub fits : misfits usage state.scope.structs (plain_of state.scope d) ≡ false

well : (usage : Use) (twice : Scope → Option CType → Bool) (wrong : Bool) (introduce : CType → State → State) (d : Decl) (state : State) → (declares usage twice wrong introduce d state).broken ≡ []
    → DeclaredWell usage twice introduce d state (declares usage twice wrong introduce d state)
unfolding declares
well usage twice wrong introduce d state h = let w = counts_of state d in let go = counted_go d.counts state.scope no_counts (first_empty w.broken _ h) in
    let kind = kind_of state.scope d w.counts in let kinds = decl_kinds state.scope usage (twice state.scope kind) wrong d w.counts in
    let none : kinds ≡ [] = none_at d.place kinds (second_empty w.broken _ h) in
    let there : decl_kinds state.scope usage (twice state.scope (kind_of state.scope d (Some go.counts))) wrong d (Some go.counts) ≡ [] =
    subst (λ o. decl_kinds state.scope usage (twice state.scope (kind_of state.scope d o)) wrong d o ≡ []) go.is none in
    let known = no_rule state.scope usage _ wrong d go.counts there in
    let bad = second_empty (breaks NotConst _) _ (second_empty (breaks BadCount _) _ (second_empty (breaks Twice _) _ (second_empty (breaks Unknown _) _ there))) in
    let same : kind ≡ Some known.type = ap (kind_of state.scope d) go.is ∙ known.is in
    let taken : accepted kinds kind ≡ Some known.type = ap (λ ks. accepted ks kind) none ∙ same in
    record {
      kind = known.type;
      is = taken;
      next = ap (λ o. introduced introduce o (after_counts state d)) taken;
      goes = go.goes;
      counts = go.counts;
      counted = go.is;
      known = known.is;
      once = ap (twice state.scope) (sym known.is) ∙ not_broken Twice _ (first_empty (breaks Twice _) _ (second_empty (breaks Unknown _) _ there));
      fits = (neither _ wrong (neither go.counts.is_odd _ (not_broken BadType _ bad)).1).0;
    }

pub declares_well : (usage : Use) (twice : Scope → Option CType → Bool) (wrong : Bool) (introduce : CType → State → State) (d : Decl) (state : State) → (declares usage twice wrong introduce d state).broken ≡ []
    → DeclaredWell usage twice introduce d state (declares usage twice wrong introduce d state)
declares_well usage twice wrong introduce d state h = well usage twice wrong introduce d state h

-- ---- declarations in the notes

-- a variable or function is declared, and a member
abbrev pub declared_more : Bind → CType → Meanings → Meanings
declared_more bind kind m = record { kinds = m.kinds; binds = m.binds ++ (bind ∷ []); declared = m.declared ++ (kind ∷ []) }

abbrev pub member_more : CType → Meanings → Meanings
member_more kind m = record { kinds = m.kinds; binds = m.binds; declared = m.declared ++ (kind ∷ []) }

pub front_declared : (bind : Bind) (kind : CType) (m : Meanings) → Front m (declared_more bind kind m)
front_declared bind kind m = record { kinds = begins_itself m.kinds; binds = begins_with m.binds (bind ∷ []); declared = begins_with m.declared (kind ∷ []) }

pub front_member : (kind : CType) (m : Meanings) → Front m (member_more kind m)
front_member kind m = record { kinds = begins_itself m.kinds; binds = begins_itself m.binds; declared = begins_with m.declared (kind ∷ []) }

pub at_declared : (bind : Bind) (kind : CType) (m : Meanings) (r : Reached) → IsAt r m → IsAt (past_declaration r) (declared_more bind kind m)
at_declared bind kind m r h = record { kind = h.kind; name = one_longer m.binds bind r.name h.name; declaration = one_longer m.declared kind r.declaration h.declaration }

pub at_member : (kind : CType) (m : Meanings) (r : Reached) → IsAt r m → IsAt (past_member r) (member_more kind m)
at_member kind m r h = record { kind = h.kind; name = h.name; declaration = one_longer m.declared kind r.declaration h.declaration }

pub type_stands : (bind : Bind) (kind : CType) (m : Meanings) (around : Around) (r : Reached) → Front (declared_more bind kind m) around.meanings → IsAt r m → declared_at around r ≡ kind
type_stands bind kind m around r f h = got_behind m.declared around.meanings.declared kind Void r.declaration f.declared h.declaration

pub member_stands : (kind : CType) (m : Meanings) (around : Around) (r : Reached) → Front (member_more kind m) around.meanings → IsAt r m → declared_at around r ≡ kind
member_stands kind m around r f h = got_behind m.declared around.meanings.declared kind Void r.declaration f.declared h.declaration

pub bind_stands : (bind : Bind) (kind : CType) (m : Meanings) (around : Around) (r : Reached) → Front (declared_more bind kind m) around.meanings → IsAt r m → bind_at around r ≡ bind
bind_stands bind kind m around r f h = got_behind m.binds around.meanings.binds bind (Local 0) r.name f.binds h.name
