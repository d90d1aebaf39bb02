-- From the walk through the counts of a declaration, and the rules of the declaration itself, the declaration.
use Rattle.std.proofs.Common.{◌≡◌, refl, sym, ◌∙◌, ap, subst, Bool, List, [], ◌++◌}
use Rattle.std.specs.Prelude.{Option, None, Some, Result, Ok, Err}
use Rattle.c_tree.specs.declared.tree.Decl.{Decl}
use Rattle.c_tree.specs.declared.tree.Expr.{Expr}
use Rattle.c_types.specs.Types.{CType}
use Rattle.c_check_rules.specs.declared.names.Scope.{Scope}
use Rattle.c_check_typing.specs.declared.typed.Notes.{Notes}
use Rattle.c_check_typing.specs.declared.fault.CheckKind.{CheckKind}
use Rattle.c_check_typing.specs.declared.fault.Broken.{Broken}
use Rattle.c_check_typing.specs.declared.fault.CheckFault.{CheckFault}
use Rattle.c_check_typing.specs.declared.fault.CheckFault.TheVariants.{Refused, OutOfMemory}
use Rattle.c_check_typing.specs.Refusals.{FirstIs, broken_at, all_at}
use Rattle.c_check_statements.specs.declared.counts.Counts.{Counts}
use Rattle.c_check_statements.specs.declared.decls.Use.{Use}
use Rattle.c_check_statements.specs.declared.state.State.{State}
use Rattle.c_check_statements.specs.Counts.{counted, no_counts, ReadsCounts}
use Rattle.c_check_statements.specs.Declarations.{Declares, Judged, declared_with, declares, decl_kinds, kind_of, counts_of, after_counts}

first_stays : {xs : List Broken} {b : Broken} (ys : List Broken) → FirstIs xs b → FirstIs (xs ++ ys) b
first_stays ys h = record { more = h.more ++ ys; is = ap (λ (z : List Broken). z ++ ys) h.is }

first_after : {xs ys : List Broken} {b : Broken} → xs ≡ [] → FirstIs ys b → FirstIs (xs ++ ys) b
first_after {ys = ys} e h = record { more = h.more; is = ap (λ (z : List Broken). z ++ ys) e ∙ h.is }

-- the counts of a declaration, written otherwise
pub of_counts : (scope : Scope) {l m : List Expr} {old new : Notes} {r : Result Counts CheckFault} → l ≡ m → ReadsCounts (counted scope (Some no_counts) l) old r new → ReadsCounts (counted scope (Some no_counts) m) old r new
of_counts scope {old = old} {new = new} {r = r} e h = subst (λ (m : List Expr). ReadsCounts (counted scope (Some no_counts) m) old r new) e h

-- types before further ones, as far as those are known
abbrev pub behind : List CType → Option (List CType) → Option (List CType)
behind kinds None = None
behind kinds (Some more) = Some (kinds ++ more)

-- the rules of a declaration whose name stands there already or not by its type
abbrev kinds_by : Scope → Use → (Scope → Option CType → Bool) → Bool → Decl → Option Counts → List CheckKind
kinds_by scope usage twice wrong d counts = decl_kinds scope usage (twice scope (kind_of scope d counts)) wrong d counts

module _ (usage : Use) (twice : Scope → Option CType → Bool) (wrong : Bool) (introduce : CType → State → State) (d : Decl) (state : State) where
  stop_in_counts : {new : State} {notes : Notes} (x : CheckFault) → ReadsCounts (counts_of state d) state.notes (Err x) notes → Declares (declares usage twice wrong introduce d state) (Err x) new
  unfolding declares
  stop_in_counts (Refused kind at) h = record { is = first_stays (all_at d.place (kinds_by state.scope usage twice wrong d (counts_of state d).counts)) h.is }
  stop_in_counts OutOfMemory h = record { is = tt }

  -- a rule is broken in the counts
  pub counts_stop : {new : State} {notes : Notes} {x : CheckFault} {r : Result CType CheckFault} → ReadsCounts (counts_of state d) state.notes (Err x) notes → r ≡ Err x
      → Declares (declares usage twice wrong introduce d state) r new
  counts_stop {new = new} {x = x} h e = subst (λ (q : Result CType CheckFault). Declares (declares usage twice wrong introduce d state) q new) (sym e) (stop_in_counts x h)

  stop_behind : {new : State} {notes : Notes} {counts : Counts} (x : CheckFault) → ReadsCounts (counts_of state d) state.notes (Ok counts) notes
      → Judged (kinds_by state.scope usage twice wrong d (Some counts)) (kind_of state.scope d (Some counts)) d.place (Err x) → Declares (declares usage twice wrong introduce d state) (Err x) new
  unfolding declares
  stop_behind (Refused kind at) h j = record {
    is = first_after h.is.0
        (subst (λ (cs : Option Counts). FirstIs (all_at d.place (kinds_by state.scope usage twice wrong d cs)) (broken_at at kind)) (sym h.is.1) j.is);
  }
  stop_behind OutOfMemory h j = record { is = tt }

  -- the declaration breaks a rule
  pub judge_stop : {new : State} {notes : Notes} {counts : Counts} {x : CheckFault} {r : Result CType CheckFault} (b w : Bool) → ReadsCounts (counts_of state d) state.notes (Ok counts) notes
      → b ≡ twice state.scope (kind_of state.scope d (Some counts)) → w ≡ wrong
      → Judged (decl_kinds state.scope usage b w d (Some counts)) (kind_of state.scope d (Some counts)) d.place (Err x) → r ≡ Err x → Declares (declares usage twice wrong introduce d state) r new
  judge_stop {new = new} {counts = counts} {x = x} b w h t v j e =
      subst (λ (q : Result CType CheckFault). Declares (declares usage twice wrong introduce d state) q new) (sym e)
      (stop_behind x h
      (subst (λ (u : Bool). Judged (decl_kinds state.scope usage u wrong d (Some counts)) (kind_of state.scope d (Some counts)) d.place (Err x)) t
      (subst (λ (u : Bool). Judged (decl_kinds state.scope usage b u d (Some counts)) (kind_of state.scope d (Some counts)) d.place (Err x)) v j)))

  ends : {new : State} {notes : Notes} {counts : Counts} {kind : CType} → ReadsCounts (counts_of state d) state.notes (Ok counts) notes
      → Judged (kinds_by state.scope usage twice wrong d (Some counts)) (kind_of state.scope d (Some counts)) d.place (Ok kind)
      → new ≡ introduce kind (record state { notes = notes }) → Declares (declares usage twice wrong introduce d state) (Ok kind) new
  unfolding declares
  ends {new = new} {counts = counts} {kind = kind} h j e =
      let go = λ (k : Option CType) (ks : List CheckKind). declared_with introduce d k (counts_of state d).broken ks (after_counts state d) in
      subst (λ (cs : Option Counts). Declares (go (kind_of state.scope d cs) (kinds_by state.scope usage twice wrong d cs)) (Ok kind) new) (sym h.is.1)
      (subst (λ (ks : List CheckKind). Declares (go (kind_of state.scope d (Some counts)) ks) (Ok kind) new) (sym j.is.0)
      (subst (λ (k : Option CType). Declares (go k []) (Ok kind) new) (sym j.is.1)
      (record {
        is = (
          ap (λ (bs : List Broken). bs ++ all_at d.place []) h.is.0,
          refl,
          e ∙ ap (λ (n : Notes). let s : State = record state { notes = n } in introduce kind s) h.is.2,
        );
      })))

  -- the declaration breaks no rule
  pub judge_ends : {new : State} {notes : Notes} {counts : Counts} {kind : CType} (b w : Bool) → ReadsCounts (counts_of state d) state.notes (Ok counts) notes
      → b ≡ twice state.scope (kind_of state.scope d (Some counts)) → w ≡ wrong
      → Judged (decl_kinds state.scope usage b w d (Some counts)) (kind_of state.scope d (Some counts)) d.place (Ok kind)
      → new ≡ introduce kind (record state { notes = notes }) → Declares (declares usage twice wrong introduce d state) (Ok kind) new
  judge_ends {counts = counts} {kind = kind} b w h t v j e = ends h
      (subst (λ (u : Bool). Judged (decl_kinds state.scope usage u wrong d (Some counts)) (kind_of state.scope d (Some counts)) d.place (Ok kind)) t
      (subst (λ (u : Bool). Judged (decl_kinds state.scope usage b u d (Some counts)) (kind_of state.scope d (Some counts)) d.place (Ok kind)) v j)) e
