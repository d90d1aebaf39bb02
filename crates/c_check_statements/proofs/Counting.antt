-- Counts one after another.
use Rattle.std.proofs.Common.{◌≡◌, sym, ◌∙◌, ap, subst, false, List, [], ◌∷◌, ◌++◌}
use Rattle.std.specs.Prelude.{Option, Some, Result, Ok, Err}
use Rattle.c_tree.specs.declared.tree.Expr.{Expr}
use Rattle.c_check_rules.specs.declared.names.Scope.{Scope}
use Rattle.c_check_typing.specs.declared.typed.Typed.{Typed}
use Rattle.c_check_typing.specs.declared.typed.Notes.{Notes}
use Rattle.c_check_typing.specs.declared.fault.Broken.{Broken}
use Rattle.c_check_typing.specs.declared.fault.CheckFault.{CheckFault}
use Rattle.c_check_typing.specs.declared.fault.CheckFault.TheVariants.{Refused, OutOfMemory}
use Rattle.c_check_typing.specs.Refusals.{FirstIs, broken_at}
use Rattle.c_check_typing.specs.Notes.{Reads}
use Rattle.c_check_typing.specs.Expressions.{seen}
use Rattle.c_check_statements.specs.declared.counts.Counts.{Counts}
use Rattle.c_check_statements.specs.Counts.{Counted, counted, next_counts, count_after, ReadsCounts}

pub record Left (whole rest : Counted) (old new : Notes) : Type 0 where
  pub broken : whole.broken ≡ rest.broken
  pub counts : whole.counts ≡ rest.counts
  pub after : whole.after old ≡ rest.after new

left_then : {w v u : Counted} {old mid new : Notes} → Left w v old mid → Left v u mid new → Left w u old new
left_then h k = record { broken = h.broken ∙ k.broken; counts = h.counts ∙ k.counts; after = h.after ∙ k.after }

left_as : {w : Counted} {old new : Notes} (scope : Scope) (counts : Counts) {all more : List Expr}
    → all ≡ more → Left w (counted scope (Some counts) all) old new → Left w (counted scope (Some counts) more) old new
left_as {w = w} {old = old} {new = new} scope counts e h = subst (λ (l : List Expr). Left w (counted scope (Some counts) l) old new) e h

-- a count that breaks no rule
count_read : (x : Expr) (scope : Scope) (counts : Counts) (more : List Expr) {old mid : Notes} {t : Typed}
    → Reads (seen x false scope) old (Ok t) mid → Left (counted scope (Some counts) (x ∷ more)) (counted scope (Some (count_after counts t)) more) old mid
count_read x scope counts more {old = old} {mid = mid} {t = t} h =
    let rest = λ (y : Option Typed). counted scope (next_counts (Some counts) y) more in
    record {
      broken = ap (λ (z : List Broken). z ++ (rest (seen x false scope).typed).broken) h.is.0 ∙ ap (λ (y : Option Typed). (rest y).broken) h.is.1;
      counts = ap (λ (y : Option Typed). (rest y).counts) h.is.1;
      after = ap (λ (y : Option Typed). (rest y).after ((seen x false scope).after old)) h.is.1 ∙ ap (λ (n : Notes). (rest (Some t)).after n) (sym h.is.2);
    }

first_stays : {xs : List Broken} {b : Broken} (ys : List Broken) → FirstIs xs b → FirstIs (xs ++ ys) b
first_stays ys h = record { more = h.more ++ ys; is = ap (λ (z : List Broken). z ++ ys) h.is }

count_stops : {w : Counted} {old mid new : Notes} (f : CheckFault) (x : Expr) (scope : Scope) (counts : Counts) (more : List Expr)
    → Left w (counted scope (Some counts) (x ∷ more)) old mid → Reads (seen x false scope) mid (Err f) new → ReadsCounts w old (Err f) new
count_stops (Refused kind at) x scope counts more l h = record {
  is = subst (λ (bs : List Broken). FirstIs bs (broken_at at kind)) (sym l.broken)
      (first_stays (counted scope (next_counts (Some counts) (seen x false scope).typed) more).broken h.is);
}
count_stops OutOfMemory x scope counts more l h = record { is = tt }

pub counts_stop : {w : Counted} {old mid new : Notes} {f : CheckFault} {r : Result Counts CheckFault} (x : Expr) (all more : List Expr) (scope : Scope) (counts : Counts)
    → Left w (counted scope (Some counts) all) old mid → all ≡ x ∷ more → Reads (seen x false scope) mid (Err f) new → r ≡ Err f → ReadsCounts w old r new
counts_stop {w = w} {old = old} {new = new} {f = f} x all more scope counts l e h is =
    subst (λ (q : Result Counts CheckFault). ReadsCounts w old q new) (sym is) (count_stops f x scope counts more (left_as scope counts e l) h)

pub counts_go : {w : Counted} {old mid new : Notes} {t : Typed} (x : Expr) (all more : List Expr) (scope : Scope) (counts next : Counts)
    → Left w (counted scope (Some counts) all) old mid → all ≡ x ∷ more → Reads (seen x false scope) mid (Ok t) new → next ≡ count_after counts t
    → Left w (counted scope (Some next) more) old new
counts_go {w = w} {old = old} {new = new} x all more scope counts next l e h n =
    subst (λ (cs : Counts). Left w (counted scope (Some cs) more) old new) (sym n) (left_then (left_as scope counts e l) (count_read x scope counts more h))

pub counts_end : {w : Counted} {old new : Notes} (all : List Expr) (scope : Scope) (counts : Counts)
    → Left w (counted scope (Some counts) all) old new → all ≡ [] → ReadsCounts w old (Ok counts) new
counts_end all scope counts l e = let k = left_as scope counts e l in record { is = (k.broken, k.counts, sym k.after) }
