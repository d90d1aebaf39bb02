-- One byte of what stands between quotes.
use Rattle.std.proofs.Common.{◌≡◌, ℕ, ◌+◌, ◌<◌, ◌≤◌, List, length, drop, get_or, Option, Some, None, refl, ap, ◌∙◌, arith}
use Rattle.std.specs.Prelude.{option_map}
use Rattle.std.proofs.lemmas.List.{at_drop_more, at_drop_all}
use Rattle.c_tokens.specs.declared.quotes.Reading.{Reading}
use Rattle.c_tokens.specs.declared.quotes.Effect.{Effect}
use Rattle.c_tokens.specs.declared.quotes.Effect.TheVariants.{Closes, Refuses}
use Rattle.c_tokens.specs.declared.quotes.Extent.{Extent}
use Rattle.c_tokens.specs.Quotes.{Quoted, step, after_step, quoted_from, extent_of}

-- the extent of what is left, after `at` bytes that stand for `count`
abbrev pub extent_after : ℕ → ℕ → Option Quoted → Option Extent
extent_after at count = option_map (λ q. record { size = at + q.size; count = count + length q.bytes })

pub extent_at_start : (rest : Option Quoted) → option_map extent_of rest ≡ extent_after 0 0 rest
extent_at_start None = refl
extent_at_start (Some q) = let size : q.size ≡ 0 + q.size = omega arith in let count : length q.bytes ≡ 0 + length q.bytes = omega arith in cc

module _ (quote : ℕ) (reading : Reading) (text : List ℕ) (at count : ℕ) where
  effect_is : (effect : Effect) → at < length text → step quote reading (get_or text at 0) ≡ effect → extent_after at count (quoted_from quote reading (drop at text)) ≡ extent_after at count (after_step effect (λ next. quoted_from quote next (drop (at + 1) text)))
  effect_is effect within is = ap (extent_after at count) (at_drop_more (quoted_from quote reading) text at 0 within ∙ ap (λ x. after_step x (λ next. quoted_from quote next (drop (at + 1) text))) is)

  pub extent_closes : at < length text → step quote reading (get_or text at 0) ≡ Closes → extent_after at count (quoted_from quote reading (drop at text)) ≡ Some (record { size = at + 1; count = count })
  extent_closes within is = effect_is Closes within is ∙ grind arith

  pub extent_refuses : at < length text → step quote reading (get_or text at 0) ≡ Refuses → extent_after at count (quoted_from quote reading (drop at text)) ≡ None
  extent_refuses within is = effect_is Refuses within is

  pub extent_ends : length text ≤ at → extent_after at count (quoted_from quote reading (drop at text)) ≡ None
  extent_ends end = ap (extent_after at count) (at_drop_all (quoted_from quote reading) text at end)
