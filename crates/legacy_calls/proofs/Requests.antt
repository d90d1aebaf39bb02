-- What an answer of the noted memory comes from.
use Rattle.std.specs.Prelude.{Result, Ok, Err}
use Rattle.std.proofs.Common.{◌≡◌, ℕ, Bool, true, false, cond, Option, None, Some, refl, ap, sym, subst}
use Rattle.std.specs.Option.{option_map}
use Rattle.mx_base.specs.declared.limits.Bounds.{Bounds}
use Rattle.mx_base.specs.BoundsStore.{BoundsStore, with_kept}
use Rattle.obj_file.specs.Machine.{Refusal, Ground, State, Event, Goes, Stops, served_or_invalid}
use Rattle.obj_file.specs.Loaded.{unless_missing}
use Rattle.obj_file.specs.Stored.{Stored, with_store, unless_untouched, stored_write, stored_load, stored_keep}
use Rattle.obj_file.specs.Beside.{Beside, Noting, result_with, noted_ground}
use Rattle.obj_file.specs.Keeping.{KeepsByRequests, KeepsByServices, EventLeaves}

ok_same : {A O : Type 0} (x y : A) → ◌≡◌ {A = Result A O} (Ok x) (Ok y) → y ≡ x
ok_same x y e = cc

err_not : {A O : Type 0} {P : Type 0} (o : O) (x : A) → ◌≡◌ {A = Result A O} (Err o) (Ok x) → P
err_not o x e = absurd (cc)

pub from_result : {A B O : Type 0} (h : A → B) (r : Result A O) (b : B) → result_with h r ≡ Ok b → (a : A) × (r ≡ Ok a) × (b ≡ h a)
from_result h (Ok a) b e = (a, refl, ok_same (h a) b e)
from_result h (Err o) b e = err_not o b e

pub from_missing : {A : Type 0} (o : Option ℕ) (v x : A) → unless_missing o v ≡ Ok x → x ≡ v
from_missing None v x e = ok_same v x e
from_missing (Some at) v x e = err_not _ x e

pub from_untouched : {A : Type 0} (cfg la : ℕ) (s : BoundsStore) (v x : A) → unless_untouched cfg s la v ≡ Ok x → x ≡ v
from_untouched {A} cfg la s v x e = by _ _ _ _ e
  where
    by : (far touched : Bool) (o p : Refusal) → cond far (cond touched (Ok v) (Err o)) (Err p) ≡ Ok x → x ≡ v
    by true true o p h = ok_same v x h
    by true false o p h = err_not o x h
    by false touched o p h = err_not p x h

pub from_served : {A : Type 0} (e : ℕ) (f : BoundsStore → A) (o : Option BoundsStore) (x : A) → served_or_invalid e (option_map f o) ≡ Ok x → (s : BoundsStore) × (o ≡ Some s) × (x ≡ f s)
from_served e f None x h = err_not _ x h
from_served e f (Some s) x h = (s, refl, ok_same (f s) x h)

pub write_leaves : (y x : Stored) (at size v : ℕ) → stored_write y at size v ≡ Ok x → x.bounds ≡ y.bounds
unfolding stored_write
write_leaves y x at size v e = ap (λ (s : Stored). s.bounds) (from_missing _ _ x e)

pub load_leaves : (cfg : ℕ) (y : Stored) (la v : ℕ) (p : Bounds × Stored) → stored_load cfg y la v ≡ Ok p → p.1 ≡ y
unfolding stored_load
load_leaves cfg y la v p e = ap (λ (q : Bounds × Stored). q.1) (from_untouched cfg la y.bounds _ p e)

pub keep_leaves : (cfg : ℕ) (y x : Stored) (la v : ℕ) (b : Bounds) → stored_keep cfg y la v b ≡ Ok x → x ≡ with_store y (with_kept y.bounds la v b)
unfolding stored_keep
keep_leaves cfg y x la v b e = from_untouched cfg la y.bounds _ x e

-- ---- relations of what stands beside the memory

module _ {X L : Type 0} (g : Ground X) (n : Noting L) (S : L → L → Type 0) where
  pub notes_keep : ((l : L) → S l l) → ((l m o : L) → S l m → S m o → S l o) → ((at size : ℕ) (l : L) → S l (n.wrote at size l)) → ((at : ℕ) (l : L) → S l (n.loaded at l)) → ((at : ℕ) (b : Bounds) (l : L) → S l (n.kept at b l))
      → KeepsByRequests (noted_ground g n) (λ y z. S y.notes z.notes)
  notes_keep same join wrote loaded kept = record {
    same = λ y. same y.notes;
    join = λ x y z h k. join x.notes y.notes z.notes h k;
    write = λ y z at size v e. let from = from_result (λ x. record { memory = x; notes = n.wrote at size y.notes }) (g.store.write y.memory at size v) z e in subst (λ (u : Beside X L). S y.notes u.notes) (sym from.2) (wrote at size y.notes);
    load = λ y at v p e. let from = from_result (λ q. (q.0, record { memory = q.1; notes = n.loaded at y.notes })) (g.store.load y.memory at v) p e in subst (λ (u : Bounds × Beside X L). S y.notes u.1.notes) (sym from.2) (loaded at y.notes);
    keep = λ y z at v b e. let from = from_result (λ x. record { memory = x; notes = n.kept at b y.notes }) (g.store.keep y.memory at v b) z e in subst (λ (u : Beside X L). S y.notes u.notes) (sym from.2) (kept at b y.notes);
    serve = λ y z entry_at lacks e. let from = from_result (λ x. record { memory = x; notes = y.notes }) (g.serve y.memory entry_at) z e in subst (λ (u : Beside X L). S y.notes u.notes) (sym from.2) (same y.notes);
  }

pub any_service : {X : Type 0} (g : Ground X) → KeepsByServices g (λ a b. Unit {0})
any_service g = record { same = λ h. tt; served = λ s word h e. tt }

pub any_request : {X : Type 0} (g : Ground X) → KeepsByRequests g (λ a b. Unit {0})
any_request g = record { same = λ x. tt; join = λ x y z h k. tt; write = λ x y at size v e. tt; load = λ x at v p e. tt; keep = λ x y at v b e. tt; serve = λ x y at lacks e. tt }

-- ---- events

pub each_leaves : {X : Type 0} (P : State X → Type 0) → ((t : State X) → P t) → (e : Event X) → EventLeaves P e
each_leaves P h (Goes turn t) = h t
each_leaves P h (Stops turn why t) = h t

pub then_leaves : {X : Type 0} (P Q : State X → Type 0) → ((t : State X) → P t → Q t) → (e : Event X) → EventLeaves P e → EventLeaves Q e
then_leaves P Q h (Goes turn t) p = h t p
then_leaves P Q h (Stops turn why t) p = h t p
