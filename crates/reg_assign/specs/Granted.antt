-- What is promised of the homes of values that wish for registers.
use Rattle.std.specs.Prelude.{◌≡◌, ℕ, ◌+◌, ◌⊎◌}
use Rattle.step_code.specs.declared.homes.Home.TheVariants.{Reg, Bnd}
use Rattle.step_code.specs.Homes.{IsSlot}
use Rattle.reg_assign.specs.declared.homes.Homes.{Homes}
use Rattle.reg_assign.specs.declared.wishes.Wishes.{Wishes}
use Rattle.reg_assign.specs.Homes.{register_at, home_in}
use Rattle.reg_assign.specs.Wishing.{WishesFor}

-- each has the register that it wishes for, or a slot
pub record AreGranted (w : Wishes) (h : Homes) : Type 0 where
  pub numbers : (v place : ℕ) → WishesFor w.numbers v place → (home_in h.homes v ≡ Reg (register_at place)) ⊎ IsSlot (home_in h.homes v)
  pub bounds : (v place : ℕ) → WishesFor w.bounds v place → (home_in h.homes v ≡ Bnd (place + 2)) ⊎ IsSlot (home_in h.homes v)
