-- The pieces of steps are instructions.
use Rattle.std.specs.Prelude.{nat_lt}
use Rattle.std.proofs.Common.{◌≡◌, refl, ℕ, suc, ◌+◌, ◌^◌, ◌<◌, ◌≤◌, ◌&&◌, Bool, true, false, Option, None, Some, List, [], ◌∷◌, ◌++◌, arith}
use Rattle.std.proofs.lemmas.Bool.{lt-ltb}
use Rattle.mx_base.specs.declared.numbers.IntKind.{IntKind}
use Rattle.mx_base.specs.Numbers.{is_signed}
use Rattle.mx_base.specs.declared.operators.Arithmetic.{Arithmetic}
use Rattle.mx_base.specs.declared.operators.Arithmetic.TheVariants.{Mul, Div, Rem, Add, Sub, Shl, Shr, BitAnd, BitXor, BitOr}
use Rattle.x86_forms.specs.declared.instr.Instr.TheVariants.{AluTo, Set, Movzx}
use Rattle.x86_forms.specs.Examples.{reg, in_reg}
use Rattle.fat_ir.specs.declared.step.FatStep.{FatStep}
use Rattle.fat_ir.specs.declared.step.FatStep.TheVariants as s
use Rattle.fat_ir.specs.Step.{Located, ObjectAt, FunctionAt}
use Rattle.step_code.specs.Asked.{IsLow}
use Rattle.step_code.specs.declared.pieces.Piece.{Piece}
use Rattle.step_code.specs.declared.pieces.Piece.TheVariants.{Plain, LoadBounds, CallTo}
use Rattle.step_code.specs.Bytes.{AllStepsValid, size_of_pieces, size_of_steps}
use Rattle.step_code.specs.Steps.{Plan, lower, get, get_bounds, put, put_bounds, arg_reg, condition, extend_instr, widen, is_narrow, operation, needs_words, load_two, load_args, put_number_at, put_pair_at, word_arg, located_piece, located_bounds, greater_of}
use Rattle.asked_steps.specs.Alone.{IsLimited, AllLimited}
use Rattle.valid_code.specs.Named.{HomesAreNamed, pointers_in, CallIsNear, CallsAreNear}
use Rattle.valid_code.proofs.Pieces.{AreSound, IsSound, all_valid, both_sound, if_sound, plain_sound, load_slot, keep_slot, load_bounds, keep_bounds, get_sound, put_sound, get_bounds_sound, put_bounds_sound, read_sound, write_sound, go_sound, go_if_sound, call_sound, argument_few, extend_valid, left_valid, right_valid, set_valid, service_valid, size_fits, word_fits}

module _ (label_at entry_at : ℕ → ℕ) (labels : (k : ℕ) → label_at k < 2 ^ 31) where
  abbrev Sound : List Piece → Type 0
  Sound ps = AreSound label_at entry_at ps

  widen_sound : (kind : IntKind) (r : ℕ) → nat_lt r 16 ≡ true → (rest : List Piece) → Sound rest → Sound (widen kind r rest)
  widen_sound kind r few rest sound = if_sound label_at entry_at (is_narrow kind) (Plain (extend_instr kind r) ∷ rest) rest (plain_sound label_at entry_at (extend_instr kind r) (extend_valid kind r few), sound) sound

  operation_sound : (op : Arithmetic) (kind : IntKind) (rest : List Piece) → Sound rest → Sound (operation op kind rest)
  operation_sound Add kind rest sound = (λ next low. refl, sound)
  operation_sound Sub kind rest sound = (λ next low. refl, sound)
  operation_sound Mul kind rest sound = (λ next low. refl, sound)
  operation_sound BitAnd kind rest sound = (λ next low. refl, sound)
  operation_sound BitOr kind rest sound = (λ next low. refl, sound)
  operation_sound BitXor kind rest sound = (λ next low. refl, sound)
  operation_sound Shl kind rest sound = (λ next low. left_valid kind, sound)
  operation_sound Shr kind rest sound = (λ next low. right_valid kind, sound)
  operation_sound Div kind rest sound = if_sound label_at entry_at (is_signed kind) _ _ (λ next low. refl, (λ next low. refl, sound)) (λ next low. refl, (λ next low. refl, sound))
  operation_sound Rem kind rest sound = if_sound label_at entry_at (is_signed kind) _ _ (λ next low. refl, (λ next low. refl, (λ next low. refl, sound))) (λ next low. refl, (λ next low. refl, (λ next low. refl, sound)))

  greater_sound : (j k : ℕ) → j < 1024 → k < 1024 → Sound (greater_of j k)
  greater_sound j k low also = (
    load_slot label_at entry_at 0 j refl low,
    (load_slot label_at entry_at 1 k refl also, (λ next less. refl, (λ next less. refl, (λ next less. refl, (keep_slot label_at entry_at j 0 low refl, tt))))),
  )

  located_sound : (l : Located) → IsLow l → IsSound label_at entry_at (located_piece l)
  located_sound (ObjectAt a) low = λ next less. lt-ltb a (2 ^ 63) low
  located_sound (FunctionAt a) low = λ next less. lt-ltb a (2 ^ 63) low

  located_bounds_sound : (l : Located) (size : ℕ) → size < 2 ^ 31 → IsSound label_at entry_at (located_bounds l size)
  located_bounds_sound (ObjectAt a) size low = λ next less. (let fits = size_fits size low in λ i. fits i && true)
  located_bounds_sound (FunctionAt a) size low = λ next less. refl

  module _ (p : Plan) (named : HomesAreNamed p) where
    gets : (r : ℕ) → nat_lt r 16 ≡ true → (v : ℕ) → IsSound label_at entry_at (get r (p.home v))
    gets r few v = get_sound label_at entry_at r few (p.home v) (named.homes v)

    puts : (v r : ℕ) → nat_lt r 16 ≡ true → IsSound label_at entry_at (put (p.home v) r)
    puts v r few = put_sound label_at entry_at (p.home v) (named.homes v) r few

    gets_bounds : (b : ℕ) → nat_lt b 4 ≡ true → (v : ℕ) → IsSound label_at entry_at (get_bounds b (p.home v))
    gets_bounds b few v = get_bounds_sound label_at entry_at b few (p.home v) (named.homes v)

    puts_bounds : (v b : ℕ) → nat_lt b 4 ≡ true → IsSound label_at entry_at (put_bounds (p.home v) b)
    puts_bounds v b few = put_bounds_sound label_at entry_at (p.home v) (named.homes v) b few

    two_sound : (words : Bool) (kind : IntKind) (a b : ℕ) (rest : List Piece) → Sound rest → Sound (load_two p words kind a b rest)
    two_sound true kind a b rest sound = (gets 0 refl a, widen_sound kind 0 refl (get 1 (p.home b) ∷ widen kind 1 rest) (gets 1 refl b, widen_sound kind 1 refl rest sound))
    two_sound false kind a b rest sound = (gets 0 refl a, (gets 1 refl b, sound))

    arguments_sound : (args : List (ℕ × Option ℕ)) (i j : ℕ) → j + pointers_in args ≤ 4 → Sound (load_args p args i j)
    arguments_sound [] i j few = tt
    arguments_sound ((a, None) ∷ rest) i j few = (gets (arg_reg i) (argument_few i) a, arguments_sound rest (suc i) j few)
    arguments_sound ((a, Some b) ∷ rest) i j few = (gets (arg_reg i) (argument_few i) a, (gets_bounds j (lt-ltb j 4 (omega (arith, few))) b, arguments_sound rest (suc i) (suc j) (omega (arith, few))))

    pair_sound : (bounds : Option ℕ) → Sound (put_pair_at p bounds)
    pair_sound None = tt
    pair_sound (Some v) = (puts_bounds v 0 refl, tt)

    number_sound : (to : Option ℕ) (rest : List Piece) → Sound rest → Sound (put_number_at p to rest)
    number_sound None rest sound = sound
    number_sound (Some v) rest sound = (puts v 0 refl, sound)

    word_sound : (arg : Option ℕ) → IsSound label_at entry_at (word_arg p arg)
    word_sound None = λ next low. refl
    word_sound (Some v) = gets 7 refl v

    module _ (returns : ℕ → Bool) (takes : ℕ → List (ℕ × Option ℕ) → Bool) where
      step_sound : (step : FatStep) → IsLimited p.located p.pointer returns takes step → CallIsNear entry_at step → Sound (lower p step)
      step_sound (s.Const to n) limited call = (λ next low. word_fits n limited, (puts to 0 refl, tt))
      step_sound (s.Copy to from) limited call = if_sound label_at entry_at (p.is_bounds to) (get_bounds 0 (p.home from) ∷ put_bounds (p.home to) 0 ∷ []) (get 0 (p.home from) ∷ put (p.home to) 0 ∷ [])
          (gets_bounds 0 refl from, (puts_bounds to 0 refl, tt)) (gets 0 refl from, (puts to 0 refl, tt))
      step_sound (s.Arith to op kind a b) limited call =
          let last : List Piece = Plain (extend_instr kind 0) ∷ put (p.home to) 0 ∷ [] in
          two_sound (needs_words op) kind a b (operation op kind last) (operation_sound op kind last (λ next low. extend_valid kind 0 refl, (puts to 0 refl, tt)))
      step_sound (s.Compare to op kind a b) limited call =
          let last : List Piece = Plain (AluTo 5 64 (reg 1) (in_reg 0)) ∷ Plain (Set (condition op (is_signed kind)) (in_reg 0)) ∷ Plain (Movzx 8 (reg 0) (in_reg 0)) ∷ put (p.home to) 0 ∷ [] in
          two_sound true kind a b last (λ next low. refl, (λ next low. set_valid op (is_signed kind), (λ next low. refl, (puts to 0 refl, tt))))
      step_sound (s.Extend to from kind) limited call = (gets 0 refl from, (λ next low. extend_valid kind 0 refl, (puts to 0 refl, tt)))
      step_sound (s.Place to bounds None offset size) limited call = (
        λ next low. refl,
        (λ next low. lt-ltb offset (2 ^ 31) limited.1, (puts to 0 refl, (λ next low. (let fits = size_fits size limited.0 in λ i. fits i && true), (puts_bounds bounds 0 refl, tt)))),
      )
      step_sound (s.Place to bounds (Some symbol) offset size) limited call = (
        located_sound (p.located symbol) limited.2,
        (λ next low. lt-ltb offset (2 ^ 31) limited.1, (puts to 0 refl, (located_bounds_sound (p.located symbol) size limited.0, (puts_bounds bounds 0 refl, tt)))),
      )
      step_sound (s.Make to q n) limited call = (gets 0 refl q, (gets 1 refl n, (λ next low. refl, (puts_bounds to 0 refl, tt))))
      step_sound (s.Meet to a b) limited call =
          let spare = named.spare in
          let last : List Piece = LoadBounds 0 p.spare ∷ put_bounds (p.home to) 0 ∷ [] in (
            gets_bounds 0 refl a,
            (
              keep_bounds label_at entry_at p.spare 0 (omega (arith, spare)) refl,
              (
                gets_bounds 0 refl b,
                (
                  keep_bounds label_at entry_at (p.spare + 2) 0 (omega (arith, spare)) refl,
                  both_sound label_at entry_at (greater_of p.spare (p.spare + 2)) (greater_of (p.spare + 1) (p.spare + 3) ++ last) (greater_sound p.spare (p.spare + 2) (omega (arith, spare)) (omega (arith, spare)))
                      (both_sound label_at entry_at (greater_of (p.spare + 1) (p.spare + 3)) last (greater_sound (p.spare + 1) (p.spare + 3) (omega (arith, spare)) (omega (arith, spare)))
                      (load_bounds label_at entry_at 0 p.spare refl (omega (arith, spare)), (puts_bounds to 0 refl, tt))),
                ),
              ),
            ),
          )
      step_sound (s.Bound to from true) limited call =
          let spare = named.spare in
          (gets_bounds 0 refl from, (keep_bounds label_at entry_at p.spare 0 (omega (arith, spare)) refl, (load_slot label_at entry_at 0 (p.spare + 1) refl (omega (arith, spare)), (λ next low. refl, (puts to 0 refl, tt)))))
      step_sound (s.Bound to from false) limited call =
          let spare = named.spare in
          (gets_bounds 0 refl from, (keep_bounds label_at entry_at p.spare 0 (omega (arith, spare)) refl, (load_slot label_at entry_at 0 p.spare refl (omega (arith, spare)), (λ next low. refl, (puts to 0 refl, tt)))))
      step_sound (s.Judge value size bounds write place) limited call = (gets 0 refl value, (gets_bounds 0 refl bounds, (λ next low. refl, (λ next low. size_fits size limited.1, tt))))
      step_sound (s.Load q to kind) limited call = (gets 0 refl q, (read_sound label_at entry_at kind, (puts to 0 refl, tt)))
      step_sound (s.Store q from kind) limited call = (gets 0 refl q, (gets 1 refl from, (write_sound label_at entry_at kind, tt)))
      step_sound (s.LoadPtr q to bounds) limited call = (gets 0 refl q, (λ next low. refl, (λ next low. refl, (puts to 1 refl, (puts_bounds bounds 0 refl, tt)))))
      step_sound (s.StorePtr q from bounds) limited call = (gets 0 refl q, (gets 1 refl from, (λ next low. refl, (gets_bounds 0 refl bounds, (λ next low. refl, tt)))))
      step_sound (s.Label n) limited call = tt
      step_sound (s.Jump n) limited call = (go_sound label_at entry_at n (labels n), tt)
      step_sound (s.JumpIf from n) limited call = (gets 0 refl from, (λ next low. refl, (go_if_sound label_at entry_at n (labels n), tt)))
      step_sound (s.Call symbol args to bounds) limited call = both_sound label_at entry_at (load_args p args 0 0) (CallTo symbol ∷ put_number_at p to (put_pair_at p bounds))
          (arguments_sound args 0 0 (let few = call.1 in omega (arith, few))) (call_sound label_at entry_at symbol call.0, number_sound to (put_pair_at p bounds) (pair_sound bounds))
      step_sound (s.Service service arg to) limited call = (word_sound arg, (λ next low. service_valid service, (λ next low. refl, number_sound to [] tt)))
      step_sound (s.Give (Some from) None) limited call = (gets 0 refl from, (go_sound label_at entry_at p.exit (labels p.exit), tt))
      step_sound (s.Give (Some from) (Some b)) limited call = (gets 0 refl from, (gets_bounds 0 refl b, (go_sound label_at entry_at p.exit (labels p.exit), tt)))
      step_sound (s.Give None None) limited call = (λ next low. refl, (λ next low. refl, (go_sound label_at entry_at p.exit (labels p.exit), tt)))
      step_sound (s.Give None (Some b)) limited call = tt

      pub steps_valid : (at : ℕ) (steps : List FatStep) → AllLimited p.located p.pointer returns takes steps → CallsAreNear entry_at steps → at + size_of_steps p steps < 2 ^ 31
          → AllStepsValid p label_at entry_at at steps
      steps_valid at [] limited calls low = tt
      steps_valid at (step ∷ steps) limited calls low = (
        all_valid label_at entry_at (lower p step) at (step_sound step limited.0 calls.0) (omega (arith, low)),
        steps_valid (at + size_of_pieces (lower p step)) steps limited.1 calls.1 (omega (arith, low)),
      )
