-- What a judgement passes, and where it stops.
use Rattle.std.proofs.Common.{ℕ, ◌≡◌, ◌≤◌, refl, sym, ap, ◌∙◌, false, Option, Some, None, is_some}
use Rattle.mx_base.specs.declared.limits.Bounds.{Bounds as BoundsPair}
use Rattle.mx_base.specs.Bounds.{last_byte, leaving_value, is_outside}
use Rattle.mx_base.proofs.BoundsLemmas.{is_outside-leaving_value, within-bounds}
use Rattle.mx_base.specs.StopOfC.{AccessOfC}
use Rattle.fat_ir.specs.Values.{Held, Nothing, Number, Pair}
use Rattle.fat_ir.specs.Step.{State, Going, Next, Reached, On, number_then, bounds_then, judged}

-- where there is no value by which an access leaves its bounds, and where there is one
none-leaves : (p s : ℕ) (b : BoundsPair) → is_outside p s b ≡ false → leaving_value p s b ≡ None
none-leaves p s b h = is_none (leaving_value p s b) (sym (is_outside-leaving_value p s b) ∙ h)
  where
    is_none : {A : Type 0} (o : Option A) → is_some o ≡ false → o ≡ None
    is_none None e = refl
    is_none (Some x) e = cc

inside-bounds : (p s : ℕ) (b : BoundsPair) → leaving_value p s b ≡ None → (b.lb ≤ p) × (last_byte p s ≤ b.ub)
inside-bounds p s b e = within-bounds p s b (is_outside-leaving_value p s b ∙ ap is_some e)

abbrev judges : Held → Held → AccessOfC → State → Reached
judges h g access s = number_then h (λ p. bounds_then g (λ b. judged (leaving_value p access.size b) b access s))

pub passes-within : (h g : Held) (p : ℕ) (b : BoundsPair) (access : AccessOfC) (s : State) → h ≡ Number p → g ≡ Pair b → is_outside p access.size b ≡ false → judges h g access s ≡ On Next s
passes-within h g p b access s e d inside = ap (λ x. judges x g access s) e ∙ ap (λ x. judges (Number p) x access s) d ∙ ap (λ o. judged o b access s) (none-leaves p access.size b inside)

-- what is known where a judgement was passed
pub record Passed (h g : Held) (size : ℕ) : Type 0 where
  pub p : ℕ
  pub b : BoundsPair
  pub number : h ≡ Number p
  pub pair : g ≡ Pair b
  pub low : b.lb ≤ p
  pub high : last_byte p size ≤ b.ub

judged-within : (o : Option ℕ) (b : BoundsPair) (access : AccessOfC) (s t : State) (going : Going) → judged o b access s ≡ On going t → o ≡ None
judged-within None b access s t going e = refl
judged-within (Some x) b access s t going e = absurd (cc)

pub within-passed : (h g : Held) (access : AccessOfC) (s t : State) (going : Going) → judges h g access s ≡ On going t → Passed h g access.size
within-passed Nothing g access s t going e = absurd (cc)
within-passed (Pair b) g access s t going e = absurd (cc)
within-passed (Number p) Nothing access s t going e = absurd (cc)
within-passed (Number p) (Number n) access s t going e = absurd (cc)
within-passed (Number p) (Pair b) access s t going e =
    let inside = inside-bounds p access.size b (judged-within (leaving_value p access.size b) b access s t going e) in
    record { p = p; b = b; number = refl; pair = refl; low = inside.0; high = inside.1 }
