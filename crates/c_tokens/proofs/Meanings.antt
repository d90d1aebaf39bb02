-- What stands between quotes, byte by byte.
use Rattle.std.proofs.Common.{◌≡◌, ℕ, ◌+◌, ◌<◌, ◌≤◌, List, [], ◌++◌, length, drop, get_or, Option, Some, None, refl, ap, ◌∙◌, arith, append-nil}
use Rattle.std.specs.Prelude.{option_map}
use Rattle.std.proofs.lemmas.List.{at_drop_more, at_drop_all}
use Rattle.c_tokens.specs.declared.quotes.Reading.{Reading}
use Rattle.c_tokens.specs.declared.quotes.Effect.{Effect}
use Rattle.c_tokens.specs.declared.quotes.Effect.TheVariants.{Closes, Refuses}
use Rattle.c_tokens.specs.Quotes.{Quoted, step, after_step, quoted_from}

-- what is left, after `at` bytes that stand for these
abbrev pub meaning_after : ℕ → List ℕ → Option Quoted → Option Quoted
meaning_after at front = option_map (λ q. record { size = at + q.size; bytes = front ++ q.bytes })

pub meaning_at_start : (rest : Option Quoted) → rest ≡ meaning_after 0 [] rest
meaning_at_start None = refl
meaning_at_start (Some q) = let size : q.size ≡ 0 + q.size = omega arith in ap (λ n. Some (record { bytes = q.bytes; size = n })) size

module _ (quote : ℕ) (reading : Reading) (text : List ℕ) (at : ℕ) (front : List ℕ) where
  effect_is : (effect : Effect) → at < length text → step quote reading (get_or text at 0) ≡ effect → meaning_after at front (quoted_from quote reading (drop at text)) ≡ meaning_after at front (after_step effect (λ next. quoted_from quote next (drop (at + 1) text)))
  effect_is effect within is = ap (meaning_after at front) (at_drop_more (quoted_from quote reading) text at 0 within ∙ ap (λ x. after_step x (λ next. quoted_from quote next (drop (at + 1) text))) is)

  pub meaning_closes : at < length text → step quote reading (get_or text at 0) ≡ Closes → meaning_after at front (quoted_from quote reading (drop at text)) ≡ Some (record { size = at + 1; bytes = front })
  meaning_closes within is = effect_is Closes within is ∙ rw append-nil refl

  pub meaning_refuses : at < length text → step quote reading (get_or text at 0) ≡ Refuses → meaning_after at front (quoted_from quote reading (drop at text)) ≡ None
  meaning_refuses within is = effect_is Refuses within is

  pub meaning_ends : length text ≤ at → meaning_after at front (quoted_from quote reading (drop at text)) ≡ None
  meaning_ends end = ap (meaning_after at front) (at_drop_all (quoted_from quote reading) text at end)
