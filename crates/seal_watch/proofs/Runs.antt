-- The first sealed byte by the ends of the sealed regions.
use Rattle.std.proofs.Common.{◌≡◌, ℕ, ◌+◌, ◌-◌, ◌<◌, ◌≤◌, min, Bool, true, false, cond, Option, None, Some, refl, sym, ap, ◌∙◌, arith}
use Rattle.std.specs.Prelude.{not}
use Rattle.std.proofs.lemmas.Bool.Decides.{nat_tests}
use Rattle.mx_base.specs.Bounds.{addresses}
use Rattle.mx_base.specs.Memory.{first_refused, first_refused_around}
use Rattle.mx_base.specs.Regions.{is_sealed}
use Rattle.mx_base.proofs.MemoryLemmas.{first_refused-all, first_refused_around-plain}
use Rattle.x86_forms.specs.declared.spans.Span.{Span}
use Rattle.x86_forms.specs.declared.instr.Instr.{Instr}
use Rattle.x86_forms.specs.Watch.{first_sealed, access_strays, is_watched}
use Rattle.x86_forms.proofs.WatchFirst.{first_refused-first}
use Rattle.seal_watch.specs.declared.verdicts.Verdict.TheVariants.{Fine}
use Rattle.seal_watch.specs.Verdicts.{verdict_of}
use Rattle.seal_watch.specs.Sealed.{IsFirstSealedFrom, is_unsealed, sealed_low, sealed_high}

-- the first sealed address of all
first_of_all : IsFirstSealedFrom 0 0x0100_0000
unfolding is_sealed
first_of_all = record { from = omega arith; sealed = refl; before = λ y low high. grind (arith, nat_tests) }

-- ---- the first sealed one of some bytes

shut : (b : Bool) → b ≡ true → not b ≡ false
shut true h = refl
shut false h = absurd (cc)

opened : (b : Bool) → b ≡ false → not b ≡ true
opened true h = absurd (cc)
opened false h = refl

reached : (n a x : ℕ) → IsFirstSealedFrom a x → x - a < n → first_refused is_unsealed n a ≡ Some x
reached n a x f within = first_refused-first is_unsealed n a (x - a) x record {
  within = within;
  address = omega (arith, f.from);
  fails = shut (is_sealed x) f.sealed;
  before = λ j below. opened (is_sealed (a + j)) (f.before (a + j) (omega arith) (omega (arith, f.from)));
}

missed : (n a x : ℕ) → IsFirstSealedFrom a x → n ≤ x - a → first_refused is_unsealed n a ≡ None
missed n a x f past = first_refused-all is_unsealed n a (λ y low high. opened (is_sealed y) (f.before y low (omega (arith, f.from))))

sealed_fits : (x : ℕ) → is_sealed x ≡ true → x < 0x5001_0000_0000
unfolding is_sealed
sealed_fits x h = grind (arith, nat_tests)

pub low_reached : (s : Span) (x : ℕ) → IsFirstSealedFrom s.at x → x - s.at < s.size → sealed_low s ≡ Some x
unfolding sealed_low
low_reached s x f within = let fits = sealed_fits x f.sealed in reached (min s.size (addresses - s.at)) s.at x f (omega (arith, f.from, fits))

pub low_missed : (s : Span) (x : ℕ) → IsFirstSealedFrom s.at x → s.size ≤ x - s.at → sealed_low s ≡ None
unfolding sealed_low
low_missed s x f past = missed (min s.size (addresses - s.at)) s.at x f (omega arith)

pub low_free : (s : Span) → ((y : ℕ) → s.at ≤ y → is_sealed y ≡ false) → sealed_low s ≡ None
unfolding sealed_low
low_free s free = first_refused-all is_unsealed (min s.size (addresses - s.at)) s.at (λ y low high. opened (is_sealed y) (free y low))

pub high_reached : (s : Span) → s.at < addresses → 0x0100_0001 < s.size - (0xffff_ffff_ffff_ffff - s.at) → sealed_high s ≡ Some 0x0100_0000
unfolding sealed_high
high_reached s fits past = reached (s.size - (addresses - s.at)) 0 0x0100_0000 first_of_all (omega arith)

pub high_missed : (s : Span) → s.at < addresses → s.size - (0xffff_ffff_ffff_ffff - s.at) ≤ 0x0100_0001 → sealed_high s ≡ None
unfolding sealed_high
high_missed s fits past = missed (s.size - (addresses - s.at)) 0 0x0100_0000 first_of_all (omega arith)

-- both halves
pub halves-low : (s : Span) (x : ℕ) → Some x ≡ sealed_low s → Some x ≡ first_sealed s
unfolding sealed_low first_sealed first_refused_around
halves-low s x h = rw (← h) refl

pub halves-high : (s : Span) → None ≡ sealed_low s → sealed_high s ≡ first_sealed s
unfolding sealed_low sealed_high first_sealed first_refused_around
halves-high s h = rw (← h) refl

-- ---- between the instrumented code and the cells

never_sealed : (y : ℕ) → 0x1100_0000 ≤ y → y < 0x7000_0000 → is_sealed y ≡ false
unfolding is_sealed
never_sealed y low high = grind (arith, nat_tests)

pub clear_access : (s : Span) → 0x1100_0000 ≤ s.at → s.at + s.size ≤ 0x7000_0000 → first_sealed s ≡ None
unfolding first_sealed
clear_access s low high =
    first_refused_around-plain is_unsealed s.size s.at (omega arith)
    ∙ first_refused-all is_unsealed s.size s.at (λ y from below. opened (is_sealed y) (never_sealed y (omega arith) (omega arith)))

strays_never : (watched : Bool) (o : Option ℕ) → o ≡ None → cond watched o None ≡ None
strays_never true o h = h
strays_never false o h = refl

pub clear_verdict : (i : Instr) (from : ℕ) (s : Span) → first_sealed s ≡ None → Fine ≡ verdict_of (access_strays i from s)
unfolding access_strays
clear_verdict i from s h = ap verdict_of (sym (strays_never (is_watched i from s) (first_sealed s) h))
