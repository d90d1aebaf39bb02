-- The pieces that bring arguments home are instructions.
use Rattle.std.specs.Prelude.{pos}
use Rattle.std.proofs.Common.{refl, ℕ, zero, suc, ◌+◌, ◌-◌, ◌^◌, ◌<◌, ◌≤◌, ◌&&◌, Bool, true, false, if◌then◌else◌, List, [], ◌∷◌, arith}
use Rattle.std.proofs.lemmas.Bool.{lt-ltb}
use Rattle.x86_forms.specs.declared.instr.Instr.TheVariants.{MovImm}
use Rattle.x86_forms.specs.Examples.{reg}
use Rattle.fat_ir.specs.Functions.{Parameter}
use Rattle.step_code.specs.declared.homes.Home.{Home}
use Rattle.step_code.specs.declared.homes.Home.TheVariants.{Reg, Slot, Bnd}
use Rattle.step_code.specs.declared.pieces.Piece.{Piece}
use Rattle.step_code.specs.declared.pieces.Piece.TheVariants.{Plain}
use Rattle.step_code.specs.Bytes.{AllValid, size_of_pieces}
use Rattle.step_code.specs.Homing.{unset_home, unset_from, home_argument, home_arguments, next_pair, width_of, taken, homing}
use Rattle.step_code.specs.Steps.{Plan, arg_reg}
use Rattle.reg_assign.specs.Homes.{IsNamed}
use Rattle.valid_code.specs.Named.{HomesAreNamed, pointers_of}
use Rattle.valid_code.proofs.Pieces.{AreSound, all_valid, keep_slot, put_sound, put_bounds_sound, argument_few}

module _ (label_at entry_at : ℕ → ℕ) (p : Plan) (named : HomesAreNamed p) where
  abbrev Sound : List Piece → Type 0
  Sound ps = AreSound label_at entry_at ps

  unset_sound : (bounds : Bool) (h : Home) → IsNamed h → (rest : List Piece) → Sound rest → Sound (unset_home bounds h rest)
  unset_sound false h is rest sound = (put_sound label_at entry_at h is 0 refl, sound)
  unset_sound true (Slot k) is rest sound = (keep_slot label_at entry_at k 0 (omega (arith, is)) refl, (keep_slot label_at entry_at (k + 1) 0 (omega (arith, is)) refl, sound))
  unset_sound true (Bnd b) is rest sound = (λ next low. (let few = lt-ltb b 4 is in λ i. few i && true && true), sound)
  unset_sound true (Reg r) is rest sound = sound

  all_unset : (x n : ℕ) (rest : List Piece) → Sound rest → Sound (unset_from p x n rest)
  all_unset x zero rest sound = sound
  all_unset x (suc n) rest sound = unset_sound (p.is_bounds x) (p.home x) (named.homes x) (unset_from p (suc x) n rest) (all_unset (suc x) n rest sound)

  argument_sound : (x i b : ℕ) (pointer : Bool) (rest : List Piece) → b + (if pointer then 1 else 0) ≤ 4 → Sound rest → Sound (home_argument p x i b pointer rest)
  argument_sound x i b true rest few sound = (
    put_sound label_at entry_at (p.home x) (named.homes x) (arg_reg i) (argument_few i),
    (put_bounds_sound label_at entry_at (p.home (x + 1)) (named.homes (x + 1)) b (lt-ltb b 4 (omega (arith, few))), sound),
  )
  argument_sound x i b false rest few sound = (put_sound label_at entry_at (p.home x) (named.homes x) (arg_reg i) (argument_few i), sound)

  next_few : (pointer : Bool) (b n : ℕ) → b + ((if pointer then 1 else 0) + n) ≤ 4 → next_pair pointer b + n ≤ 4
  next_few true b n few = omega (arith, few)
  next_few false b n few = omega (arith, few)

  own_few : (pointer : Bool) (b n : ℕ) → b + ((if pointer then 1 else 0) + n) ≤ 4 → b + (if pointer then 1 else 0) ≤ 4
  own_few true b n few = omega (arith, few)
  own_few false b n few = omega (arith, few)

  arguments_sound : (qs : List Parameter) (home temp i b : ℕ) (rest : List Piece) → b + pointers_of qs ≤ 4 → Sound rest → Sound (home_arguments p home temp i b qs rest)
  arguments_sound [] home temp i b rest few sound = sound
  arguments_sound (q ∷ qs) home temp i b rest few sound =
      by q.private (arguments_sound qs (home + width_of q.pointer) temp (i + 1) (next_pair q.pointer b) (home_argument p home i b q.pointer rest) after (argument_sound home i b q.pointer rest own sound))
      (arguments_sound qs home (temp + width_of q.pointer) (i + 1) (next_pair q.pointer b) (home_argument p temp i b q.pointer rest) after (argument_sound temp i b q.pointer rest own sound))
    where
      after : next_pair q.pointer b + pointers_of qs ≤ 4
      after = next_few q.pointer b (pointers_of qs) few

      own : b + (if q.pointer then 1 else 0) ≤ 4
      own = own_few q.pointer b (pointers_of qs) few

      by : (private : Bool) → Sound (home_arguments p (home + width_of q.pointer) temp (i + 1) (next_pair q.pointer b) qs (home_argument p home i b q.pointer rest))
          → Sound (home_arguments p home (temp + width_of q.pointer) (i + 1) (next_pair q.pointer b) qs (home_argument p temp i b q.pointer rest))
          → Sound (if private then home_arguments p (home + width_of q.pointer) temp (i + 1) (next_pair q.pointer b) qs (home_argument p home i b q.pointer rest)
          else home_arguments p home (temp + width_of q.pointer) (i + 1) (next_pair q.pointer b) qs (home_argument p temp i b q.pointer rest))
      by true kept arrived = kept
      by false kept arrived = arrived

  pub homing_valid : (at private : ℕ) (qs : List Parameter) → pointers_of qs ≤ 4 → at + size_of_pieces (homing p private qs) < 2 ^ 31 → AllValid label_at entry_at at (homing p private qs)
  homing_valid at private qs few low = all_valid label_at entry_at (homing p private qs) at
      (arguments_sound qs 0 private 0 0 (Plain (MovImm 64 (reg 0) (pos 0)) ∷ unset_from p (taken qs) (private - taken qs) []) (omega (arith, few))
      (λ next less. refl, all_unset (taken qs) (private - taken qs) [] tt)) low
