-- What the laws of legacy calls say.
use Rattle.std.specs.Prelude.{◌≡◌, ℕ, ◌/◌, ◌==◌, Bool, false, List}
use Rattle.std.specs.List.{list_any}
use Rattle.mx_base.specs.World.{World, Log}
use Rattle.fat_ir.specs.Values.{Value}
use Rattle.fat_ir.specs.Calls.{Callee}
use Rattle.fat_ir.specs.Laws.{Leads}

-- ---- the counters of the log

abbrev pub is_listed : ℕ → List ℕ → Bool
is_listed n list = list_any (λ m. m == n) list

-- between two worlds: none is struck off, every byte that changed lies in a page that is listed, and so does every granule for which what is kept changed
pub record Counted (w : World) (l : Log) (u : World) (m : Log) : Type 0 where
  pub pages : (p : ℕ) → is_listed p m.pages ≡ false → is_listed p l.pages ≡ false
  pub granules : (g : ℕ) → is_listed g m.granules ≡ false → is_listed g l.granules ≡ false
  pub bytes : (x : ℕ) → is_listed (x / 4096) m.pages ≡ false → u.bytes x ≡ w.bytes x
  pub kept : (g : ℕ) → is_listed g m.granules ≡ false → u.store.kept g ≡ w.store.kept g

-- ---- stacks

-- the stacks of legacy code and of data stand where they stood, once a call comes back
abbrev pub KeepsStacks : Callee → Type 0
KeepsStacks call = (f : ℕ) (args : List Value) (w : World) → Leads (λ u. (u.legacy_sp ≡ w.legacy_sp) × (u.data_sp ≡ w.data_sp)) (λ u. Unit {0}) (call f args w)
