-- Arguments come into the homes of values, the last one first, and then private variables begin.
use Rattle.step_code.specs.Steps.{arg_reg}
use Rattle.program_laws.proofs.Registers.{same_register}
use Rattle.gate_laws.specs.Moments.{Final}
use Rattle.step_code.specs.declared.homes.Home.{Home}
use Rattle.step_code.specs.declared.homes.Home.TheVariants.{Reg, Slot, Bnd}
use Rattle.step_code.specs.declared.pieces.Piece.{Piece}
use Rattle.code_laws.specs.Views.{View, with_word, with_bound, with_slot, with_number_home, with_pair_home, regs_put}
use Rattle.code_laws.specs.Seen.{Setting, IsSetting, Seen}
use Rattle.step_code.specs.Steps.{Plan}
use Rattle.code_laws.specs.Laid.{StandAll}
use Rattle.step_code.specs.Homes.{IsFree, IsNumberHome, IsPairHome, Assigned}
use Rattle.code_laws.proofs.Pieces.{with_reg_leaves, leaves_all, plain_goes, keep_slot}
use Rattle.code_laws.proofs.Homes.{at_address, with_scratch, put_goes, put_bounds_goes, Scratched}
use Rattle.code_laws.specs.Runs.{In, whole_of}
use Rattle.code_laws.proofs.Inside.{in_on, put_in, put_pair_in}
use Rattle.code_laws.proofs.Leading.{leads_then}
use Rattle.step_code.specs.Homing.{Clear, FineArgument, FineArguments, FineOne, unset_home, unset_from, home_argument, next_pair, width_of, home_arguments, homing, taken}
use Rattle.std.specs.Prelude.{nat_lt, nat_eq, if◌then◌else◌, pos, negsuc, slice_index_or}
use Rattle.std.proofs.Common.{◌≡◌, ◌≢◌, ℕ, zero, suc, ◌+◌, ◌-◌, ◌^◌, ◌<◌, ◌≤◌, ◌⊎◌, inl, inr, Bool, true, false, cond, Option, None, Some, List, [], ◌∷◌, length, refl, arith, ap, ◌∙◌, sym, subst}
use Rattle.std.proofs.lemmas.Bool.{cond_both, cases_lt}
use Rattle.std.proofs.lemmas.Bool.Decides.{nat_tests, eqb_tells}
use Rattle.mx_base.specs.declared.limits.Bounds.{Bounds as BoundsPair}
use Rattle.mx_base.specs.declared.numbers.IntKind.{IntKind}
use Rattle.mx_base.specs.Bounds.{full_bounds}
use Rattle.x86_forms.specs.declared.instr.Base.TheVariants.{None as NoBase}
use Rattle.x86_forms.specs.declared.instr.Instr.TheVariants.{MovImm, Bndmk}
use Rattle.x86_forms.specs.Examples.{reg}
use Rattle.x86_forms.specs.Processor.{Processor, address, part_written}
use Rattle.x86_forms.specs.Requests.{Ends as RequestEnds}
use Rattle.x86_forms.specs.Table.{row, at_next}
use Rattle.obj_file.specs.Stored.{Stored}
use Rattle.fat_ir.specs.declared.step.FatStep.{FatStep}
use Rattle.fat_ir.specs.Values.{Held, Nothing, Number, Pair, Values, with_held, Value}
use Rattle.fat_ir.specs.Functions.{Linked, Parameter, arrived_in, unset, values_at_entry}
use Rattle.gate_laws.specs.Standing.{Arrive}
use Rattle.program_laws.proofs.Homed.{Homed}

zero_row : (c : Processor) (next : ℕ) → row (MovImm 64 (reg 0) (pos 0)) next c ≡ RequestEnds (with_word (at_next c next) 0 0)
unfolding row part_written
zero_row c next = refl

full_row : (c : Processor) (next b : ℕ) → row (Bndmk b (record { base = NoBase; index = None; disp = negsuc 0 })) next c ≡ RequestEnds (with_bound (at_next c next) b full_bounds)
unfolding row address
full_row c next b = refl

rax_free : IsFree 0
rax_free = record { rbx = refl; rsp = refl; rbp = refl; r12 = refl; r13 = refl; r14 = refl; r15 = refl }

moved_on : (v : View) (next : ℕ) → Scratched v (at_address v next)
moved_on v next = record { regs = λ r h. refl; bounds = λ b h. refl; slots = refl }

-- a value is put where it arrives
abbrev argued : (x : ℕ) (q : Bool) (a : Value) (values : Values) → Values
argued x true a values = with_held (x + 1) (Pair a.bounds) (with_held x (Number a.number) values)
argued x false a values = with_held x (Number a.number) values

-- the values with the arguments in them, where the last argument is put first
abbrev put_last_first : (home temp : ℕ) → List Parameter → List Value → Values → Values
put_last_first home temp [] args values = values
put_last_first home temp (q ∷ qs) [] values = values
put_last_first home temp (q ∷ qs) (a ∷ args) values =
    if q.private then argued home q.pointer a (put_last_first (home + width_of q.pointer) temp qs args values)
    else argued temp q.pointer a (put_last_first home (temp + width_of q.pointer) qs args values)

module _ (S : Setting) (ok : IsSetting S) (private : ℕ) (steps : List FatStep) (p : Plan) (first last : ℕ → ℕ) (assigned : Assigned S.units private steps p first last) where
  abbrev Inside : Values → View → Type 0
  Inside values v = In S.units private steps p first last assigned 0 values v

  -- arguments before the i-th, and bounds before the b-th, as they were
  pub record SameArgs (i b : ℕ) (c d : Processor) : Type 0 where
    pub regs : (j : ℕ) → j < i → d.regs (arg_reg j) ≡ c.regs (arg_reg j)
    pub bounds : (t : ℕ) → t < b → d.bounds t ≡ c.bounds t

  same_then : (i b : ℕ) (c d e : Processor) → SameArgs i b c d → SameArgs i b d e → SameArgs i b c e
  same_then i b c d e f g = record { regs = λ j l. g.regs j l ∙ f.regs j l; bounds = λ t l. g.bounds t l ∙ f.bounds t l }

  fewer : (i b i2 b2 : ℕ) (c d : Processor) → i ≤ i2 → b ≤ b2 → SameArgs i2 b2 c d → SameArgs i b c d
  fewer i b i2 b2 c d li lb f = record { regs = λ j l. f.regs j (omega arith); bounds = λ t l. f.bounds t (omega arith) }

  clear_number : (i b : ℕ) (h : Home) (n next : ℕ) (v : View) → Clear p first i b h → SameArgs i b v.processor (with_number_home h n (at_address v next)).processor
  clear_number i b (Reg r) n next v clear = record { regs = λ j l. ap (λ t. cond t n (v.processor.regs (arg_reg j))) (clear j l); bounds = λ t l. refl }
  clear_number i b (Slot k) n next v clear = record { regs = λ j l. refl; bounds = λ t l. refl }
  clear_number i b (Bnd x) n next v clear = record { regs = λ j l. refl; bounds = λ t l. refl }

  clear_pair : (i b : ℕ) (h : Home) (x : BoundsPair) (next : ℕ) (v : View) → Clear p first i b h → SameArgs i b v.processor (with_pair_home h x (at_address v next)).processor
  clear_pair i b (Reg r) x next v clear = record { regs = λ j l. refl; bounds = λ t l. refl }
  clear_pair i b (Slot k) x next v clear = record { regs = λ j l. refl; bounds = λ t l. refl }
  clear_pair i b (Bnd c) x next v clear = record { regs = λ j l. refl; bounds = λ t l. ap (λ z. cond z x (v.processor.bounds t)) (clear t l) }

  -- ---- arguments

  -- one argument, which stands in its registers
  abbrev Stood : (i b : ℕ) → Bool → Value → Processor → Type 0
  Stood i b true a c = (c.regs (arg_reg i) ≡ a.number) × (c.bounds b ≡ a.bounds)
  Stood i b false a c = c.regs (arg_reg i) ≡ a.number

  argument : (P : Final → Type 0) (x i b : ℕ) (pointer : Bool) (s : Option IntKind) (a : Value) (rest : List Piece) (end : ℕ) (values : Values) (v : View) (y : Stored) (k : ℕ)
      → FineArgument p first x i b pointer s → Seen S v y → StandAll S.code S.label_at S.entry_at v.processor.rip (home_argument p x i b pointer rest) end → Stood i b pointer a v.processor → Inside values v
      → ((u : View) (y2 : Stored) (k2 : ℕ) → Seen S u y2 → StandAll S.code S.label_at S.entry_at u.processor.rip rest end → SameArgs i b v.processor u.processor → u.world ≡ v.world → Inside (argued x pointer a values) u → P (whole_of S u y2 k2)) → P (whole_of S v y k)
  argument P x i b true (Some kind) a rest end values v y k fine seen stand here inside go = absurd fine
  argument P x i b false None a rest end values v y k fine seen stand here inside go = absurd fine
  argument P x i b false (Some kind) a rest end values v y k fine seen stand here inside go =
      let u : View = with_number_home (p.home x) (v.processor.regs (arg_reg i)) (at_address v stand.0) in
      let at = in_on S.units private steps p first last assigned 0 0 values v (at_address v stand.0) (omega arith) (moved_on v stand.0) inside in
      let put_it = put_in S.units private steps p first last assigned 0 x a.number values (at_address v stand.0) (fine.0, omega arith) fine.1 at in
      leads_then S P (whole_of S v y k) u (put_goes S ok v y k stand.0 (arg_reg i) (p.home x) (record { seen = seen; stands = stand.1 }) (assigned.number_fits x fine.1))
      (λ y2 k2 seen2. go u y2 k2 seen2 stand.2 (clear_number i b (p.home x) (v.processor.regs (arg_reg i)) stand.0 v fine.2) refl
      (subst (λ (n : ℕ). Inside (with_held x (Number a.number) values) (with_number_home (p.home x) n (at_address v stand.0))) (sym here) put_it))
  argument P x i b true None a rest end values v y k fine seen stand here inside go =
      let fine_n = fine.0 in
      let fine_p = fine.1 in
      let n2 = stand.2.0 in
      let u1 : View = with_number_home (p.home x) (v.processor.regs (arg_reg i)) (at_address v stand.0) in
      let u2 : View = with_pair_home (p.home (x + 1)) (v.processor.bounds b) (at_address u1 n2) in
      let at = in_on S.units private steps p first last assigned 0 0 values v (at_address v stand.0) (omega arith) (moved_on v stand.0) inside in
      let put_it = put_in S.units private steps p first last assigned 0 x a.number values (at_address v stand.0) (fine_n.0, omega arith) fine_n.1 at in
      let inside1 : Inside (with_held x (Number a.number) values) u1 = subst (λ (n : ℕ). Inside (with_held x (Number a.number) values) (with_number_home (p.home x) n (at_address v stand.0))) (sym here.0) put_it in
      let at1 = in_on S.units private steps p first last assigned 0 0 (with_held x (Number a.number) values) u1 (at_address u1 n2) (omega arith) (moved_on u1 n2) inside1 in
      let small : a.bounds.ub < 2 ^ 64 = subst (λ (z : BoundsPair). z.ub < 2 ^ 64) here.1 (seen.words.bounds_fit b).1 in
      let put_pair = put_pair_in S.units private steps p first last assigned 0 (x + 1) a.bounds (with_held x (Number a.number) values) (at_address u1 n2) (fine_p.0, omega arith) fine_p.1 small at1 in
      let same1 = clear_number i b (p.home x) (v.processor.regs (arg_reg i)) stand.0 v fine_n.2 in
      let same2 = clear_pair i b (p.home (x + 1)) (v.processor.bounds b) n2 u1 fine_p.2 in
      leads_then S P (whole_of S v y k) u1 (put_goes S ok v y k stand.0 (arg_reg i) (p.home x) (record { seen = seen; stands = stand.1 }) (assigned.number_fits x fine_n.1))
      (λ y1 k1 seen1. leads_then S P (whole_of S u1 y1 k1) u2 (put_bounds_goes S ok u1 y1 k1 n2 b (p.home (x + 1)) (record { seen = seen1; stands = stand.2.1 }) (assigned.pair_fits (x + 1) fine_p.1))
      (λ y2 k2 seen2. go u2 y2 k2 seen2 stand.2.2
      (same_then i b v.processor u1.processor u2.processor same1 same2) refl
      (subst (λ (z : BoundsPair). Inside (with_held (x + 1) (Pair a.bounds) (with_held x (Number a.number) values)) (with_pair_home (p.home (x + 1)) z (at_address u1 n2))) (sym here.1) put_pair)))

  -- the argument at the front stands where it arrived, when those behind it have come to their homes
  still : (i b : ℕ) (pointer : Bool) (s : Option IntKind) (x : ℕ) (ps : List (Option IntKind)) (a : Value) (args : List Value) (c d : Processor) → FineArgument p first x i b pointer s → Arrive i b (s ∷ ps) (a ∷ args) c → SameArgs (i + 1) (next_pair pointer b) c d → Stood i b pointer a d
  still i b true None x ps a args c d fine here same = (same.regs i (omega arith) ∙ ap c.regs (same_register i) ∙ here.0, same.bounds b (omega arith) ∙ here.1)
  still i b true (Some kind) x ps a args c d fine here same = absurd fine
  still i b false None x ps a args c d fine here same = absurd fine
  still i b false (Some kind) x ps a args c d fine here same = same.regs i (omega arith) ∙ ap c.regs (same_register i) ∙ here.0

  later : (i b : ℕ) (pointer : Bool) (s : Option IntKind) (x : ℕ) (ps : List (Option IntKind)) (a : Value) (args : List Value) (c : Processor) → FineArgument p first x i b pointer s → Arrive i b (s ∷ ps) (a ∷ args) c → Arrive (i + 1) (next_pair pointer b) ps args c
  later i b true None x ps a args c fine here = here.2
  later i b true (Some kind) x ps a args c fine here = absurd fine
  later i b false None x ps a args c fine here = absurd fine
  later i b false (Some kind) x ps a args c fine here = here.1

  before : (b : ℕ) (pointer : Bool) → b ≤ next_pair pointer b
  before b true = omega arith
  before b false = omega arith

  -- how those behind the front are homed
  abbrev Tail : (Final → Type 0) → ℕ → List Parameter → List (Option IntKind) → List Value → ℕ → Values → View → Stored → ℕ → Type 0
  Tail P i qs ps args end values v y k = (home2 temp2 b2 : ℕ) (rest2 : List Piece) → FineArguments p first home2 temp2 (i + 1) b2 qs ps → StandAll S.code S.label_at S.entry_at v.processor.rip (home_arguments p home2 temp2 (i + 1) b2 qs rest2) end → Arrive (i + 1) b2 ps args v.processor
      → ((u : View) (y2 : Stored) (k2 : ℕ) → Seen S u y2 → StandAll S.code S.label_at S.entry_at u.processor.rip rest2 end → SameArgs (i + 1) b2 v.processor u.processor → u.world ≡ v.world → Inside (put_last_first home2 temp2 qs args values) u → P (whole_of S u y2 k2)) → P (whole_of S v y k)

  arguments : (P : Final → Type 0) (home temp i b : ℕ) (qs : List Parameter) (ps : List (Option IntKind)) (args : List Value) (rest : List Piece) (end : ℕ) (values : Values) (v : View) (y : Stored) (k : ℕ)
      → FineArguments p first home temp i b qs ps → Seen S v y → StandAll S.code S.label_at S.entry_at v.processor.rip (home_arguments p home temp i b qs rest) end → Arrive i b ps args v.processor → Inside values v
      → ((u : View) (y2 : Stored) (k2 : ℕ) → Seen S u y2 → StandAll S.code S.label_at S.entry_at u.processor.rip rest end → SameArgs i b v.processor u.processor → u.world ≡ v.world → Inside (put_last_first home temp qs args values) u → P (whole_of S u y2 k2)) → P (whole_of S v y k)
  arguments P home temp i b [] [] args rest end values v y k fine seen stand here inside go = go v y k seen stand (record { regs = λ j l. refl; bounds = λ t l. refl }) refl inside
  arguments P home temp i b [] (s ∷ ps) args rest end values v y k fine seen stand here inside go = absurd fine
  arguments P home temp i b (q ∷ qs) [] args rest end values v y k fine seen stand here inside go = absurd fine
  arguments P home temp i b (q ∷ qs) (s ∷ ps) [] rest end values v y k fine seen stand here inside go = no_argument s here
    where
      no_argument : (s : Option IntKind) → Arrive i b (s ∷ ps) [] v.processor → P (whole_of S v y k)
      no_argument None h = absurd h
      no_argument (Some kind) h = absurd h
  arguments P home temp i b (q ∷ qs) (s ∷ ps) (a ∷ args) rest end values v y k fine seen stand here inside go = by_parameter q.private stand fine go
      (λ home2 temp2 b2 rest2 fine2 stand2 here2 go2. arguments P home2 temp2 (i + 1) b2 qs ps args rest2 end values v y k fine2 seen stand2 here2 inside go2)
    where
      one : (x home2 temp2 : ℕ) → FineArgument p first x i b q.pointer s → FineArguments p first home2 temp2 (i + 1) (next_pair q.pointer b) qs ps
          → StandAll S.code S.label_at S.entry_at v.processor.rip (home_arguments p home2 temp2 (i + 1) (next_pair q.pointer b) qs (home_argument p x i b q.pointer rest)) end
          → ((u : View) (y2 : Stored) (k2 : ℕ) → Seen S u y2 → StandAll S.code S.label_at S.entry_at u.processor.rip rest end → SameArgs i b v.processor u.processor → u.world ≡ v.world → Inside (argued x q.pointer a (put_last_first home2 temp2 qs args values)) u → P (whole_of S u y2 k2)) → Tail P i qs ps args end values v y k → P (whole_of S v y k)
      one x home2 temp2 fine1 fine2 stand go tail =
          tail home2 temp2 (next_pair q.pointer b) (home_argument p x i b q.pointer rest) fine2 stand (later i b q.pointer s x ps a args v.processor fine1 here)
          (λ u y2 k2 seen2 stand2 same2 world2 inside2. argument P x i b q.pointer s a rest end (put_last_first home2 temp2 qs args values) u y2 k2 fine1 seen2 stand2 (still i b q.pointer s x ps a args v.processor u.processor fine1 here same2) inside2
          (λ u3 y3 k3 seen3 stand3 same3 world3 inside3. go u3 y3 k3 seen3 stand3
          (same_then i b v.processor u.processor u3.processor (fewer i b (i + 1) (next_pair q.pointer b) v.processor u.processor (omega arith) (before b q.pointer) same2) same3) (world3 ∙ world2) inside3))

      by_parameter : (private : Bool)
          → StandAll S.code S.label_at S.entry_at v.processor.rip (if private then home_arguments p (home + width_of q.pointer) temp (i + 1) (next_pair q.pointer b) qs (home_argument p home i b q.pointer rest) else home_arguments p home (temp + width_of q.pointer) (i + 1) (next_pair q.pointer b) qs (home_argument p temp i b q.pointer rest)) end
          → FineOne p first private home temp i b q.pointer s × FineArguments p first (if private then home + width_of q.pointer else home) (if private then temp else temp + width_of q.pointer) (i + 1) (next_pair q.pointer b) qs ps
          → ((u : View) (y2 : Stored) (k2 : ℕ) → Seen S u y2 → StandAll S.code S.label_at S.entry_at u.processor.rip rest end → SameArgs i b v.processor u.processor → u.world ≡ v.world
          → Inside (if private then argued home q.pointer a (put_last_first (home + width_of q.pointer) temp qs args values) else argued temp q.pointer a (put_last_first home (temp + width_of q.pointer) qs args values)) u → P (whole_of S u y2 k2)) → Tail P i qs ps args end values v y k → P (whole_of S v y k)
      by_parameter true stand fine go tail = one home (home + width_of q.pointer) temp fine.0 fine.1 stand go tail
      by_parameter false stand fine go tail = one temp home (temp + width_of q.pointer) fine.0 fine.1 stand go tail

-- ---- private variables begin

module _ (S : Setting) (ok : IsSetting S) (private : ℕ) (steps : List FatStep) (p : Plan) (first last : ℕ → ℕ) (assigned : Assigned S.units private steps p first last) (x0 : ℕ) (given : Values) where
  abbrev InsideOf : Values → View → Type 0
  InsideOf values v = In S.units private steps p first last assigned 0 values v

  -- beside what is given, those from x0 on and below n have begun
  abbrev pub begun : ℕ → Values
  begun n = λ v. if nat_lt v x0 then given v else (if nat_lt v n then unset (p.is_bounds v) else given v)

  one_more : (x y : ℕ) → x0 ≤ x → with_held x (unset (p.is_bounds x)) (begun x) y ≡ begun (suc x) y
  one_more x y from = elim (eqb_tells y x) as (λ _. with_held x (unset (p.is_bounds x)) (begun x) y ≡ begun (suc x) y) [
    | inl e ↦ let l : nat_lt y (suc x) ≡ true = below y (suc x) (let same = e.1 in omega arith) in let o : nat_lt y x0 ≡ false = not_below y x0 (let same = e.1 in omega arith) in rw (e.0, o, l) (ap (λ (z : ℕ). unset (p.is_bounds z)) (sym e.1))
    | inr e ↦ by_start e.0 e.1 (nat_lt y x0) refl
  ]
    where
      below : (a b : ℕ) → a < b → nat_lt a b ≡ true
      below a b less = grind (arith, nat_tests)

      not_below : (a b : ℕ) → b ≤ a → nat_lt a b ≡ false
      not_below a b le = grind (arith, nat_tests)

      is_below : (a b : ℕ) → nat_lt a b ≡ true → a < b
      is_below a b h = grind (arith, nat_tests)

      is_above : (a b : ℕ) → nat_lt a b ≡ false → b ≤ a
      is_above a b h = grind (arith, nat_tests)

      apart : (a b : ℕ) → b ≤ a → a ≢ b → b < a
      apart a b le ne = grind (arith, ne)

      by_below : nat_lt y x0 ≡ false → nat_eq y x ≡ false → y ≢ x → (t : Bool) → nat_lt y x ≡ t → with_held x (unset (p.is_bounds x)) (begun x) y ≡ begun (suc x) y
      by_below o e ne true h = let l = below y (suc x) (let z = is_below y x h in omega arith) in rw (e, o, h, l) refl
      by_below o e ne false h = let l = not_below y (suc x) (let z = apart y x (is_above y x h) ne in omega arith) in rw (e, o, h, l) refl

      by_start : nat_eq y x ≡ false → y ≢ x → (t : Bool) → nat_lt y x0 ≡ t → with_held x (unset (p.is_bounds x)) (begun x) y ≡ begun (suc x) y
      by_start e ne true o = rw (e, o) refl
      by_start e ne false o = by_below o e ne (nat_lt y x) refl

  begun_more : (x : ℕ) → x0 ≤ x → with_held x (unset (p.is_bounds x)) (begun x) ≡ begun (suc x)
  begun_more x from = λ i y. (one_more x y from) i

  zero_kept : (h : Home) (regs : ℕ → ℕ) → regs 0 ≡ 0 → regs_put h (regs 0) regs 0 ≡ 0
  zero_kept (Reg r) regs is = cond_both (nat_eq 0 r) (regs 0) (regs 0) (λ (n : ℕ). n ≡ 0) (λ _. is) (λ _. is)
  zero_kept (Slot k) regs is = is
  zero_kept (Bnd b) regs is = is

  abbrev Onward : (Final → Type 0) → ℕ → List Piece → ℕ → View → Type 0
  Onward P x rest end v = (u : View) (y : Stored) (k : ℕ) → Seen S u y → StandAll S.code S.label_at S.entry_at u.processor.rip rest end → u.processor.regs 0 ≡ 0 → u.world ≡ v.world → InsideOf (begun x) u → P (whole_of S u y k)

  unset_one : (P : Final → Type 0) (x : ℕ) (rest : List Piece) (end : ℕ) (v : View) (y : Stored) (k : ℕ) → x0 ≤ x → x < private → Seen S v y → StandAll S.code S.label_at S.entry_at v.processor.rip (unset_home (p.is_bounds x) (p.home x) rest) end → v.processor.regs 0 ≡ 0
      → InsideOf (begun x) v → Onward P (suc x) rest end v → P (whole_of S v y k)
  unset_one P x rest end v y k from few seen stand zero_is inside go = by_sort (p.is_bounds x) refl (p.home x) refl stand
    where
      has : (first x ≤ 0) × (0 ≤ last x)
      has = let e = assigned.private_first x few in (omega arith, omega arith)

      by_sort : (b : Bool) → p.is_bounds x ≡ b → (h : Home) → p.home x ≡ h → StandAll S.code S.label_at S.entry_at v.processor.rip (unset_home b h rest) end → P (whole_of S v y k)
      by_sort false e h f stand =
          let u : View = with_number_home h (v.processor.regs 0) (at_address v stand.0) in
          let at = in_on S.units private steps p first last assigned 0 0 (begun x) v (at_address v stand.0) (omega arith) (moved_on v stand.0) inside in
          let put_it = put_in S.units private steps p first last assigned 0 x 0 (begun x) (at_address v stand.0) has e at in
          let values : with_held x (Number 0) (begun x) ≡ begun (suc x) = ap (λ (t : Bool). with_held x (unset t) (begun x)) (sym e) ∙ begun_more x from in
          leads_then S P (whole_of S v y k) u (put_goes S ok v y k stand.0 0 h (record { seen = seen; stands = stand.1 }) (subst (IsNumberHome S.units) f (assigned.number_fits x e)))
          (λ y2 k2 seen2. go u y2 k2 seen2 stand.2 (zero_kept h v.processor.regs zero_is) refl
          (subst (λ (n : ℕ). InsideOf (begun (suc x)) (with_number_home h n (at_address v stand.0))) (sym zero_is) (subst (λ (g : Home). InsideOf (begun (suc x)) (with_number_home g 0 (at_address v stand.0))) f (subst (λ (q : Values). InsideOf q (with_number_home (p.home x) 0 (at_address v stand.0))) values put_it))))
      by_sort true e (Slot s) f stand =
          let few_words : s + 1 < S.units = subst (IsPairHome S.units) f (assigned.pair_fits x e) in
          let n2 = stand.2.0 in
          let v1 : View = record v { processor = at_next v.processor stand.0; slots = with_slot s (v.processor.regs 0) v.slots } in
          let u : View = record v { processor = at_next v.processor n2; slots = with_slot (s + 1) (v.processor.regs 0) (with_slot s (v.processor.regs 0) v.slots) } in
          let at = in_on S.units private steps p first last assigned 0 0 (begun x) v (at_address v n2) (omega arith) (moved_on v n2) inside in
          let put_it = put_pair_in S.units private steps p first last assigned 0 x full_bounds (begun x) (at_address v n2) has e (omega arith) at in
          let values : with_held x (Pair full_bounds) (begun x) ≡ begun (suc x) = ap (λ (t : Bool). with_held x (unset t) (begun x)) (sym e) ∙ begun_more x from in
          leads_then S P (whole_of S v y k) v1 (keep_slot S ok v y k stand.0 s 0 (record { seen = seen; stands = stand.1 }) (omega arith))
          (λ y1 k1 seen1. leads_then S P (whole_of S v1 y1 k1) u (keep_slot S ok v1 y1 k1 n2 (s + 1) 0 (record { seen = seen1; stands = stand.2.1 }) few_words)
          (λ y2 k2 seen2. go u y2 k2 seen2 stand.2.2 zero_is refl
          (subst (λ (n : ℕ). InsideOf (begun (suc x)) (record v { processor = at_next v.processor n2; slots = with_slot (s + 1) n (with_slot s n v.slots) })) (sym zero_is)
          (subst (λ (g : Home). InsideOf (begun (suc x)) (with_pair_home g full_bounds (at_address v n2))) f (subst (λ (q : Values). InsideOf q (with_pair_home (p.home x) full_bounds (at_address v n2))) values put_it)))))
      by_sort true e (Bnd b) f stand =
          let u : View = with_pair_home (Bnd b) full_bounds (at_address v stand.0) in
          let at = in_on S.units private steps p first last assigned 0 0 (begun x) v (at_address v stand.0) (omega arith) (moved_on v stand.0) inside in
          let put_it = put_pair_in S.units private steps p first last assigned 0 x full_bounds (begun x) (at_address v stand.0) has e (omega arith) at in
          let values : with_held x (Pair full_bounds) (begun x) ≡ begun (suc x) = ap (λ (t : Bool). with_held x (unset t) (begun x)) (sym e) ∙ begun_more x from in
          leads_then S P (whole_of S v y k) u (plain_goes S ok v y k stand.0 _ u.processor (record { seen = seen; stands = stand.1 }) (record { call = refl; return = refl; service = refl; accesses_none = refl; is_row = full_row v.processor stand.0 b; is_next = refl; leaves = leaves_all v.processor.regs; preserve = refl }))
          (λ y2 k2 seen2. go u y2 k2 seen2 stand.2 zero_is refl
          (subst (λ (g : Home). InsideOf (begun (suc x)) (with_pair_home g full_bounds (at_address v stand.0))) f (subst (λ (q : Values). InsideOf q (with_pair_home (p.home x) full_bounds (at_address v stand.0))) values put_it)))
      by_sort true e (Reg r) f stand = absurd (subst (IsPairHome S.units) f (assigned.pair_fits x e))

  unset_all : (P : Final → Type 0) (n x : ℕ) (rest : List Piece) (end : ℕ) (v : View) (y : Stored) (k : ℕ) → x0 ≤ x → x + n ≡ private → Seen S v y → StandAll S.code S.label_at S.entry_at v.processor.rip (unset_from p x n rest) end → v.processor.regs 0 ≡ 0
      → InsideOf (begun x) v → Onward P private rest end v → P (whole_of S v y k)
  unset_all P zero x rest end v y k from is seen stand zero_is inside go =
      let e : x ≡ private = omega arith in
      go v y k seen stand zero_is refl (subst (λ (z : ℕ). InsideOf (begun z) v) e inside)
  unset_all P (suc n) x rest end v y k from is seen stand zero_is inside go =
      unset_one P x (unset_from p (suc x) n rest) end v y k from (omega arith) seen stand zero_is inside
      (λ u y2 k2 seen2 stand2 zero2 world2 inside2. unset_all P n (suc x) rest end u y2 k2 (omega arith) (omega arith) seen2 stand2 zero2 inside2
      (λ u3 y3 k3 seen3 stand3 zero3 world3 inside3. go u3 y3 k3 seen3 stand3 zero3 (world3 ∙ world2) inside3))

-- ---- the values are those at the entry

held_here : (x : ℕ) (h : Held) (A : Values) (y : ℕ) → y ≡ x → with_held x h A y ≡ h
held_here x h A y same = elim (eqb_tells y x) as (λ _. with_held x h A y ≡ h) [ inl e ↦ rw e.0 refl | inr e ↦ absurd (e.1 same) ]

held_elsewhere : (x : ℕ) (h : Held) (A : Values) (y : ℕ) → y ≢ x → with_held x h A y ≡ A y
held_elsewhere x h A y apart = elim (eqb_tells y x) as (λ _. with_held x h A y ≡ A y) [ inl e ↦ absurd (apart e.1) | inr e ↦ rw e.0 refl ]

-- what no argument is put to is as it was
untouched : (home temp : ℕ) (qs : List Parameter) (args : List Value) (B : Values) (y : ℕ) → (y < home) ⊎ (home + taken qs ≤ y) → y < temp → arrived_in home temp qs args B y ≡ B y
untouched home temp [] args B y out low = refl
untouched home temp (q ∷ qs) [] B y out low = refl
untouched home temp (q ∷ qs) (a ∷ args) B y out low = by_parameter q.private q.pointer out (λ home2 temp2 C out2 low2. untouched home2 temp2 qs args C y out2 low2)
  where
    by_parameter : (private pointer : Bool) → (y < home) ⊎ (home + (if private then width_of pointer + taken qs else taken qs) ≤ y)
        → ((home2 temp2 : ℕ) (C : Values) → (y < home2) ⊎ (home2 + taken qs ≤ y) → y < temp2 → arrived_in home2 temp2 qs args C y ≡ C y)
        → arrived_in home temp (record { private = private; pointer = pointer } ∷ qs) (a ∷ args) B y ≡ B y
    by_parameter true true out again =
        again (home + 2) temp (with_held (home + 1) (Pair a.bounds) (with_held home (Number a.number) B)) (elim out [ inl less ↦ inl (omega arith) | inr more ↦ inr (omega arith) ]) low
        ∙ held_elsewhere (home + 1) (Pair a.bounds) (with_held home (Number a.number) B) y (λ same. elim out [ inl less ↦ absurd (omega arith) | inr more ↦ absurd (omega arith) ])
        ∙ held_elsewhere home (Number a.number) B y (λ same. elim out [ inl less ↦ absurd (omega arith) | inr more ↦ absurd (omega arith) ])
    by_parameter true false out again =
        again (home + 1) temp (with_held home (Number a.number) B) (elim out [ inl less ↦ inl (omega arith) | inr more ↦ inr (omega arith) ]) low
        ∙ held_elsewhere home (Number a.number) B y (λ same. elim out [ inl less ↦ absurd (omega arith) | inr more ↦ absurd (omega arith) ])
    by_parameter false true out again =
        again home (temp + 2) (with_held (temp + 1) (Pair a.bounds) (with_held temp (Number a.number) B)) out (omega arith)
        ∙ held_elsewhere (temp + 1) (Pair a.bounds) (with_held temp (Number a.number) B) y (λ same. absurd (omega arith))
        ∙ held_elsewhere temp (Number a.number) B y (λ same. absurd (omega arith))
    by_parameter false false out again =
        again home (temp + 1) (with_held temp (Number a.number) B) out (omega arith)
        ∙ held_elsewhere temp (Number a.number) B y (λ same. absurd (omega arith))

-- one argument put last, or first
number_moved : (x : ℕ) (a : Value) (R B : Values) (y : ℕ) (X : Values → Held) → ((A : Values) → y ≡ x → X A ≡ A y)
    → (y ≢ x → R y ≡ X (argued x false a B)) → argued x false a R y ≡ X (argued x false a B)
number_moved x a R B y X mine others = elim (eqb_tells y x) as (λ _. argued x false a R y ≡ X (argued x false a B)) [
  | inl e ↦ held_here x (Number a.number) R y e.1 ∙ sym (held_here x (Number a.number) B y e.1) ∙ sym (mine (argued x false a B) e.1)
  | inr e ↦ held_elsewhere x (Number a.number) R y e.1 ∙ others e.1
]

pair_moved : (x : ℕ) (a : Value) (R B : Values) (y : ℕ) (X : Values → Held) → ((A : Values) → (y ≡ x) ⊎ (y ≡ x + 1) → X A ≡ A y)
    → (y ≢ x → y ≢ x + 1 → R y ≡ X (argued x true a B)) → argued x true a R y ≡ X (argued x true a B)
pair_moved x a R B y X mine others = elim (eqb_tells y (x + 1)) as (λ _. argued x true a R y ≡ X (argued x true a B)) [
  | inl e ↦ held_here (x + 1) (Pair a.bounds) (with_held x (Number a.number) R) y e.1 ∙ sym (held_here (x + 1) (Pair a.bounds) (with_held x (Number a.number) B) y e.1) ∙ sym (mine (argued x true a B) (inr e.1))
  | inr e ↦ held_elsewhere (x + 1) (Pair a.bounds) (with_held x (Number a.number) R) y e.1 ∙ at_number e.1
]
  where
    at_number : y ≢ x + 1 → with_held x (Number a.number) R y ≡ X (argued x true a B)
    at_number apart = elim (eqb_tells y x) as (λ _. with_held x (Number a.number) R y ≡ X (argued x true a B)) [
      | inl e ↦ held_here x (Number a.number) R y e.1 ∙ sym (held_elsewhere (x + 1) (Pair a.bounds) (with_held x (Number a.number) B) y apart ∙ held_here x (Number a.number) B y e.1) ∙ sym (mine (argued x true a B) (inl e.1))
      | inr e ↦ held_elsewhere x (Number a.number) R y e.1 ∙ others e.1 apart
    ]

-- the last argument first or the first one first: the values are the same, but where nothing is put
in_each_order : (home temp : ℕ) (qs : List Parameter) (args : List Value) (A B : Values) (y : ℕ) → length qs ≡ length args → home + taken qs ≤ temp → ((y < home) ⊎ (home + taken qs ≤ y) → A y ≡ B y)
    → put_last_first home temp qs args A y ≡ arrived_in home temp qs args B y
in_each_order home temp [] args A B y as_many low agree = elim (cases_lt y home) [ inl less ↦ agree (inl less) | inr more ↦ agree (inr (omega arith)) ]
in_each_order home temp (q ∷ qs) [] A B y as_many low agree = absurd (omega arith)
in_each_order home temp (q ∷ qs) (a ∷ args) A B y as_many low agree = by_parameter q.private q.pointer low agree
    (λ home2 temp2 C low2 agree2. in_each_order home2 temp2 qs args A C y (omega arith) low2 agree2)
  where
    below_two : (v h : ℕ) → v < h + 2 → v ≢ h → v ≢ h + 1 → v < h
    below_two v h low a b = elim (cases_lt v h) [ inl less ↦ less | inr le ↦ elim (cases_lt h v) [ inl more ↦ absurd (b (omega arith)) | inr same ↦ absurd (a (omega arith)) ] ]

    below_one : (v h : ℕ) → v < h + 1 → v ≢ h → v < h
    below_one v h low a = elim (cases_lt v h) [ inl less ↦ less | inr le ↦ absurd (a (omega arith)) ]

    by_parameter : (private pointer : Bool) → home + (if private then width_of pointer + taken qs else taken qs) ≤ temp
        → ((y < home) ⊎ (home + (if private then width_of pointer + taken qs else taken qs) ≤ y) → A y ≡ B y)
        → ((home2 temp2 : ℕ) (C : Values) → home2 + taken qs ≤ temp2 → ((y < home2) ⊎ (home2 + taken qs ≤ y) → A y ≡ C y) → put_last_first home2 temp2 qs args A y ≡ arrived_in home2 temp2 qs args C y)
        → (if private then argued home pointer a (put_last_first (home + width_of pointer) temp qs args A) else argued temp pointer a (put_last_first home (temp + width_of pointer) qs args A)) y
        ≡ arrived_in home temp (record { private = private; pointer = pointer } ∷ qs) (a ∷ args) B y
    by_parameter true true low agree again = pair_moved home a (put_last_first (home + 2) temp qs args A) B y (λ C. arrived_in (home + 2) temp qs args C y)
        (λ C is. untouched (home + 2) temp qs args C y (elim is [ inl e ↦ inl (omega arith) | inr e ↦ inl (omega arith) ]) (elim is [ inl e ↦ omega arith | inr e ↦ omega arith ]))
        (λ not_number not_pair. again (home + 2) temp (argued home true a B) (omega arith)
        (λ out. agree (elim out [ inl less ↦ inl (below_two y home less not_number not_pair) | inr more ↦ inr (omega arith) ])
        ∙ sym (held_elsewhere (home + 1) (Pair a.bounds) (with_held home (Number a.number) B) y not_pair ∙ held_elsewhere home (Number a.number) B y not_number)))
    by_parameter true false low agree again = number_moved home a (put_last_first (home + 1) temp qs args A) B y (λ C. arrived_in (home + 1) temp qs args C y)
        (λ C e. untouched (home + 1) temp qs args C y (inl (omega arith)) (omega arith))
        (λ not_number. again (home + 1) temp (argued home false a B) (omega arith)
        (λ out. agree (elim out [ inl less ↦ inl (below_one y home less not_number) | inr more ↦ inr (omega arith) ]) ∙ sym (held_elsewhere home (Number a.number) B y not_number)))
    by_parameter false true low agree again = pair_moved temp a (put_last_first home (temp + 2) qs args A) B y (λ C. arrived_in home (temp + 2) qs args C y)
        (λ C is. untouched home (temp + 2) qs args C y (elim is [ inl e ↦ inr (omega arith) | inr e ↦ inr (omega arith) ]) (elim is [ inl e ↦ omega arith | inr e ↦ omega arith ]))
        (λ not_number not_pair. again home (temp + 2) (argued temp true a B) (omega arith)
        (λ out. agree out ∙ sym (held_elsewhere (temp + 1) (Pair a.bounds) (with_held temp (Number a.number) B) y not_pair ∙ held_elsewhere temp (Number a.number) B y not_number)))
    by_parameter false false low agree again = number_moved temp a (put_last_first home (temp + 1) qs args A) B y (λ C. arrived_in home (temp + 1) qs args C y)
        (λ C e. untouched home (temp + 1) qs args C y (inr (omega arith)) (omega arith))
        (λ not_number. again home (temp + 1) (argued temp false a B) (omega arith)
        (λ out. agree out ∙ sym (held_elsewhere temp (Number a.number) B y not_number)))

-- where the pieces of homing stand, all values come into their homes
module _ (S : Setting) (ok : IsSetting S) (steps : List FatStep) (p : Plan) (first last : ℕ → ℕ) (l : Linked) (sorts : (x : ℕ) → x < l.fun.private → slice_index_or l.fun.bounds x false ≡ p.is_bounds x)
    (assigned : Assigned S.units l.fun.private steps p first last) (ps : List (Option IntKind)) (base : ℕ)
    (few_taken : taken l.parameters ≤ l.fun.private) (fine : FineArguments p first 0 l.fun.private 0 0 l.parameters ps) where
  abbrev Entered : Values → View → Type 0
  Entered values v = In S.units l.fun.private steps p first last assigned 0 values v

  abbrev arguments_of : List Value → Values
  arguments_of args = put_last_first 0 l.fun.private l.parameters args (λ v. Nothing)

  as_many : (home temp i b : ℕ) (qs : List Parameter) (ps : List (Option IntKind)) (args : List Value) (c : Processor) → FineArguments p first home temp i b qs ps → Arrive i b ps args c → length qs ≡ length args
  as_many home temp i b [] [] args c fine here = none args here
    where
      none : (args : List Value) → Arrive i b [] args c → 0 ≡ length args
      none [] h = refl
      none (a ∷ args) h = absurd h
  as_many home temp i b [] (s ∷ ps) args c fine here = absurd fine
  as_many home temp i b (q ∷ qs) [] args c fine here = absurd fine
  as_many home temp i b (q ∷ qs) (None ∷ ps) [] c fine here = absurd here
  as_many home temp i b (q ∷ qs) (Some kind ∷ ps) [] c fine here = absurd here
  as_many home temp i b (q ∷ qs) (s ∷ ps) (a ∷ args) c fine here = by_parameter q.private q.pointer s fine here
      (λ home2 temp2 b2 fine2 here2. ap suc (as_many home2 temp2 (i + 1) b2 qs ps args c fine2 here2))
    where
      by_parameter : (private pointer : Bool) (s : Option IntKind)
          → FineOne p first private home temp i b pointer s × FineArguments p first (if private then home + width_of pointer else home) (if private then temp else temp + width_of pointer) (i + 1) (next_pair pointer b) qs ps → Arrive i b (s ∷ ps) (a ∷ args) c
          → ((home2 temp2 b2 : ℕ) → FineArguments p first home2 temp2 (i + 1) b2 qs ps → Arrive (i + 1) b2 ps args c → suc (length qs) ≡ suc (length args)) → suc (length qs) ≡ suc (length args)
      by_parameter true true None f h again = again (home + 2) temp (b + 1) f.1 h.2
      by_parameter true true (Some kind) f h again = absurd f.0
      by_parameter true false None f h again = absurd f.0
      by_parameter true false (Some kind) f h again = again (home + 1) temp b f.1 h.1
      by_parameter false true None f h again = again home (temp + 2) (b + 1) f.1 h.2
      by_parameter false true (Some kind) f h again = absurd f.0
      by_parameter false false None f h again = absurd f.0
      by_parameter false false (Some kind) f h again = again home (temp + 1) b f.1 h.1

  abbrev all_begun : List Value → Values
  all_begun args = begun S ok l.fun.private steps p first last assigned (taken l.parameters) (arguments_of args) l.fun.private

  at_entry : (args : List Value) → length l.parameters ≡ length args → (y : ℕ) → all_begun args y ≡ values_at_entry l.fun l.parameters args y
  at_entry args many y = elim (nat_lt y (taken l.parameters)) as (λ t. nat_lt y (taken l.parameters) ≡ t → (if t then arguments_of args y else (if nat_lt y l.fun.private then unset (p.is_bounds y) else arguments_of args y)) ≡ values_at_entry l.fun l.parameters args y) [
    | true ↦ λ e. in_each_order 0 l.fun.private l.parameters args (λ v. Nothing) _ y many (omega arith) (λ out. absurd (not_out (is_below y (taken l.parameters) e) out))
    | false ↦ λ e. elim (nat_lt y l.fun.private) as (λ t. nat_lt y l.fun.private ≡ t → (if t then unset (p.is_bounds y) else arguments_of args y) ≡ values_at_entry l.fun l.parameters args y) [
      | true ↦ λ f. ap unset (sym (sorts y (is_below y l.fun.private f))) ∙ sym (untouched 0 l.fun.private l.parameters args _ y (inr (let from = is_above y (taken l.parameters) e in omega arith)) (is_below y l.fun.private f) ∙ rw f refl)
      | false ↦ λ f. in_each_order 0 l.fun.private l.parameters args (λ v. Nothing) _ y many (omega arith) (λ out. rw f refl)
    ] refl
  ] refl
    where
      is_below : (a b : ℕ) → nat_lt a b ≡ true → a < b
      is_below a b h = grind (arith, nat_tests)

      is_above : (a b : ℕ) → nat_lt a b ≡ false → b ≤ a
      is_above a b h = grind (arith, nat_tests)

      not_out : y < taken l.parameters → (y < 0) ⊎ (0 + taken l.parameters ≤ y) → ⊥
      not_out low (inl never) = absurd (omega arith)
      not_out low (inr from) = absurd (omega arith)

  pub homed : (args : List Value) (v : View) (y : Stored) (k : ℕ) → Seen S v y → StandAll S.code S.label_at S.entry_at v.processor.rip (homing p l.fun.private l.parameters) base → Arrive 0 0 ps args v.processor
      → Homed S S.units l.fun.private (values_at_entry l.fun l.parameters args) steps p first last assigned base (whole_of S v y k) v.world
  homed args v y k seen stand here =
      let P : Final → Type 0 = λ o. Homed S S.units l.fun.private (values_at_entry l.fun l.parameters args) steps p first last assigned base o v.world in
      let many = as_many 0 l.fun.private 0 0 l.parameters ps args v.processor fine here in
      arguments S ok l.fun.private steps p first last assigned P 0 l.fun.private 0 0 l.parameters ps args _ base (λ x. Nothing) v y k fine seen stand here (nothing_in v)
      (λ u y2 k2 seen2 stand2 same2 world2 inside2.
      let v1 : View = with_scratch u stand2.0 0 0 in
      leads_then S P (whole_of S u y2 k2) v1 (plain_goes S ok u y2 k2 stand2.0 _ v1.processor (record { seen = seen2; stands = stand2.1 }) (record { call = refl; return = refl; service = refl; accesses_none = refl; is_row = zero_row u.processor stand2.0; is_next = refl; leaves = with_reg_leaves u.processor.regs 0 0 rax_free; preserve = refl }))
      (λ y3 k3 seen3. unset_all S ok l.fun.private steps p first last assigned (taken l.parameters) (arguments_of args) P (l.fun.private - taken l.parameters) (taken l.parameters) [] base v1 y3 k3 (omega arith) (omega arith) seen3 stand2.2 refl
      (subst (λ (q : Values). Entered q v1) (λ i x. (none_more x (nat_lt x (taken l.parameters)) (unset (p.is_bounds x))) i) (in_on S.units l.fun.private steps p first last assigned 0 0 (arguments_of args) u v1 (omega arith) (zeroed u stand2.0) inside2))
      (λ u3 y4 k4 seen4 at4 zero4 world4 inside4. record { view = u3; leads = record { memory = y4; steps = k4; same = refl; seen = seen4 }; at = at4; world = world4 ∙ world2; values = subst (λ (q : Values). Entered q u3) (λ i x. (at_entry args many x) i) inside4 })))
    where
      none_more : (x : ℕ) (t : Bool) (h : Held) → arguments_of args x ≡ (if t then arguments_of args x else (if t then h else arguments_of args x))
      none_more x true h = refl
      none_more x false h = refl

      nothing_in : (u : View) → Entered (λ x. Nothing) u
      nothing_in u = record { at_home = λ x le. tt; begun = λ x known. absurd known; sorted = λ x. tt }

      zeroed : (u : View) (next : ℕ) → Scratched u (with_scratch u next 0 0)
      zeroed u next = record { regs = λ r h. ap (λ t. cond t 0 (u.processor.regs r)) h.rax; bounds = λ b h. refl; slots = refl }
