-- Values that wish for places: each is to have its own, or a slot.
use Rattle.std.specs.Prelude.{◌≡◌, ℕ, ◌+◌, ◌<◌, ◌≤◌, ◌⊎◌, Bool, false, true, List, length, slice_index_or}
use Rattle.fat_ir.specs.declared.program.FatFun.{FatFun}
use Rattle.reg_assign.specs.declared.lives.Lives.{Lives}
use Rattle.reg_assign.specs.declared.wishes.Wishes.{Wishes}

-- a value wishes for a place where it stands there in a list
abbrev pub WishesFor : (values : List ℕ) → (v place : ℕ) → Type 0
WishesFor values v place = (place < length values) × (slice_index_or values place 0 ≡ v)

-- it wishes for some place
pub record IsWishing (values : List ℕ) (v : ℕ) : Type 0 where
  pub place : ℕ
  pub wishes : WishesFor values v place

-- a place that a value wishes for, or the first one if it wishes for none
abbrev pub IsWish : (values : List ℕ) → (v place : ℕ) → Type 0
IsWish values v place = WishesFor values v place ⊎ ((place ≡ 0) × ((other : ℕ) → WishesFor values v other → ⊥))

-- values of one kind, numbers or bounds, that may wish: they live where the function begins, and wish for one register each
pub record MayWish (f : FatFun) (sort : Bool) (registers : ℕ) (values : List ℕ) : Type 0 where
  pub few : length values ≤ registers
  pub first : (v : ℕ) → IsWishing values v → v < f.private + f.arrived
  pub kind : (v : ℕ) → IsWishing values v → slice_index_or f.bounds v false ≡ sort
  pub once : (v place other : ℕ) → WishesFor values v place → WishesFor values v other → place ≡ other

-- numbers for the six registers, and bounds for the two
pub record AreWishes (f : FatFun) (w : Wishes) : Type 0 where
  pub numbers : MayWish f false 6 w.numbers
  pub bounds : MayWish f true 2 w.bounds

-- in the order of the scan no other value of their kind stands before one that wishes
abbrev pub StandAhead : FatFun → Lives → Bool → List ℕ → Type 0
StandAhead f l sort values = (j k : ℕ) → j < k → k < length l.order → IsWishing values (slice_index_or l.order k 0)
    → slice_index_or f.bounds (slice_index_or l.order j 0) false ≡ sort → IsWishing values (slice_index_or l.order j 0)
