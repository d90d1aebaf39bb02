-- States between which legacy code can see no difference: they differ at most in sealed bytes.
use Rattle.std.specs.Prelude.{◌≡◌, ◌<◌, ℕ, true, false}
use Rattle.mx_base.specs.Memory.{AreBytes}
use Rattle.mx_base.specs.Regions.{is_sealed}
use Rattle.x86_forms.specs.Processor.{Processor}
use Rattle.obj_file.specs.Machine.{State, Event, Goes, Stops}
use Rattle.obj_file.specs.Stored.{Stored}
use Rattle.obj_file.specs.StoreLaw.{HoldsWords, KeepsWords}

-- processors that differ at most in BNDSTATUS and in registers that there are not
pub record Like (c d : Processor) : Type 0 where
  pub regs : (r : ℕ) → r < 16 → c.regs r ≡ d.regs r
  pub flags : c.flags ≡ d.flags
  pub rip : c.rip ≡ d.rip
  pub bounds : (b : ℕ) → b < 4 → c.bounds b ≡ d.bounds b
  pub preserve : c.preserve ≡ d.preserve

-- memories with the same bytes that are not sealed, and the same store of bounds
pub record SameUnsealed (y x : Stored) : Type 0 where
  pub unsealed : (a : ℕ) → is_sealed a ≡ false → x.bytes a ≡ y.bytes a
  pub bounds : x.bounds ≡ y.bounds

-- what a memory is left as: its sealed bytes as they were, each byte one, and words in what is kept
pub record SameSealed (x z : Stored) : Type 0 where
  pub sealed : (a : ℕ) → is_sealed a ≡ true → z.bytes a ≡ x.bytes a
  pub each_byte : AreBytes z.bytes
  pub kept_words : (g : ℕ) → KeepsWords (z.bounds.kept g)

-- two states without a difference outside of sealed bytes, those of the second as in x
pub record StatesLike (x : Stored) (s t : State Stored) : Type 0 where
  pub like : Like s.processor t.processor
  pub same : SameUnsealed s.memory t.memory
  pub left : SameSealed x t.memory
  pub words : HoldsWords t.processor
  pub guest : t.guest ≡ s.guest

-- both take a turn or none, stop for the same reason or go on, and leave such states
abbrev pub EventsLike : Stored → Event Stored → Event Stored → Type 0
EventsLike x (Goes a s) (Goes b t) = (a ≡ b) × StatesLike x s t
EventsLike x (Stops a why s) (Stops b also t) = (a ≡ b) × (why ≡ also) × StatesLike x s t
EventsLike x _ _ = ⊥
