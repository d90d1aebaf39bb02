-- Rows do alike for processors that differ at most in BNDSTATUS and in registers that there are not.
use Rattle.std.proofs.Common.{◌≡◌, ℕ, zero, suc, ◌+◌, ◌-◌, ◌*◌, ◌/◌, ◌%◌, ◌^◌, ◌<◌, ◌≤◌, Bool, true, false, cond, ◌==◌, ◌&&◌, ◌||◌, not, nat_lt, nat_le, nat_eq, Option, None, Some, refl, ap, ◌∙◌, sym, subst, arith}
use Rattle.std.specs.Prelude.{if◌then◌else◌}
use Rattle.std.proofs.lemmas.Bool.{cond_both, and_parts}
use Rattle.std.proofs.lemmas.Bool.Decides.{nat_tests}
use Rattle.mx_base.specs.declared.limits.Bounds.{Bounds}
use Rattle.mx_base.specs.Bounds.{full_bounds, complement}
use Rattle.x86_forms.specs.declared.instr.Instr.{Instr}
use Rattle.x86_forms.specs.declared.instr.Reg.{Reg}
use Rattle.x86_forms.specs.declared.instr.Mem.{Mem}
use Rattle.x86_forms.specs.declared.instr.Base.{Base}
use Rattle.x86_forms.specs.declared.instr.Base.TheVariants.{None as NoBase, Reg as BaseReg, Rip}
use Rattle.x86_forms.specs.declared.instr.Rm.{Rm}
use Rattle.x86_forms.specs.declared.instr.Rm.TheVariants.{Reg as InReg, Mem as InMem}
use Rattle.x86_forms.specs.declared.instr.Instr.TheVariants.{MovTo, MovFrom, MovMemImm, MovImm, Movsxd, Movzx, Movsx, Lea, AluTo, AluFrom, AluImm, Test as TestRm, Imul as ImulRm, One, Wide, ShiftCl, ShiftImm, Set, Push, Pop, CallRel, JmpRel, CallRm, JmpRm, Jcc, Ret, Syscall, Ud2, Nop, Bndmk, Bndcl, Bndcu, Bndcn, BndmovTo, BndmovFrom, Bndldx, Bndstx}
use Rattle.x86_forms.specs.Arithmetic.{Flags, Operation, Not, Neg, Test, Imul, low, signed, bits_of, is_negative, writes_result, result_of, flags_after, divided, divided_signed, holds, no_flags}
use Rattle.x86_forms.specs.Processor.{Processor, rax, rcx, rdx, rsp, with_reg, with_part, part_written, with_bounds, base_value, index_value, index_register, address, pointer_address, below_stack, above_stack, branch_target, bytes_in}
use Rattle.x86_forms.specs.Requests.{Program, Ends, Fails, Reads, Writes, Loads, Keeps, Fault}
use Rattle.x86_forms.specs.Table.{row, at_next, with_result, with_flags, with_stack, with_bnd, branched, init_bounds, reg_value, value_then, written_to, imm_value, pushed, operated, one_operand, quotient_kept, checked, checked_value, bounds_then, with_flags_after, alu_operation, shift_operation, from_stored, as_stored}
use Rattle.x86_forms.specs.Validity.{valid_of, rm_ok, mem_ok, reg_ok, base_ok, index_ok, bnd_rm_ok}
use Rattle.obj_file.specs.LegacyEvents.{Like}

abbrev pub LikeProgram : Program → Program → Type 0
LikeProgram (Ends a) (Ends b) = Like a b
LikeProgram (Fails f a) (Fails g b) = (f ≡ g) × Like a b
LikeProgram (Reads at size implicit next) (Reads at' size' implicit' next') = (at ≡ at') × (size ≡ size') × (implicit ≡ implicit') × ((v : ℕ) → LikeProgram (next v) (next' v))
LikeProgram (Writes at size value implicit next) (Writes at' size' value' implicit' next') = (at ≡ at') × (size ≡ size') × (value ≡ value') × (implicit ≡ implicit') × LikeProgram next next'
LikeProgram (Loads at value next) (Loads at' value' next') = (at ≡ at') × (value ≡ value') × ((b : Bounds) → LikeProgram (next b) (next' b))
LikeProgram (Keeps at value b next) (Keeps at' value' b' next') = (at ≡ at') × (value ≡ value') × (b ≡ b') × LikeProgram next next'
LikeProgram _ _ = ⊥

-- ---- small steps

below_16 : (r : ℕ) → nat_lt r 16 ≡ true → r < 16
below_16 r h = grind (arith, nat_tests)

below_4 : (r : ℕ) → nat_lt r 4 ≡ true → r < 4
below_4 r h = grind (arith, nat_tests)

like_rip : (c d : Processor) (next : ℕ) → Like c d → Like (at_next c next) (at_next d next)
like_rip c d next h = record { regs = h.regs; flags = h.flags; rip = refl; bounds = h.bounds; preserve = h.preserve }

like_flags : (c d : Processor) (f g : Flags) → f ≡ g → Like c d → Like (with_flags c f) (with_flags d g)
like_flags c d f g e h = record { regs = h.regs; flags = e; rip = h.rip; bounds = h.bounds; preserve = h.preserve }

same_part : (w r v : ℕ) (f g : ℕ → ℕ) (x : ℕ) → f r ≡ g r → f x ≡ g x → with_part w f r v x ≡ with_part w g r v x
same_part w r v f g x e h = λ i. cond (nat_eq x r) (part_written w (e i) v) (h i)

pub like_result : (c d : Processor) (w r v u : ℕ) → r < 16 → v ≡ u → Like c d → Like (with_result c w r v) (with_result d w r u)
like_result c d w r v u few e h = record {
  regs = λ x less. same_part w r v c.regs d.regs x (h.regs r few) (h.regs x less) ∙ ap (λ (n : ℕ). with_part w d.regs r n x) e;
  flags = h.flags;
  rip = h.rip;
  bounds = h.bounds;
  preserve = h.preserve;
}

like_stack : (c d : Processor) (a b : ℕ) → a ≡ b → Like c d → Like (with_stack c a) (with_stack d b)
like_stack c d a b e h = record {
  regs = λ x less. λ i. cond (nat_eq x 4) (e i) (h.regs x less i);
  flags = h.flags;
  rip = h.rip;
  bounds = h.bounds;
  preserve = h.preserve;
}

like_bnd : (c d : Processor) (b : ℕ) (x z : Bounds) → x ≡ z → Like c d → Like (with_bnd c b x) (with_bnd d b z)
like_bnd c d b x z e h = record {
  regs = h.regs;
  flags = h.flags;
  rip = h.rip;
  bounds = λ k less. λ i. cond (nat_eq k b) (e i) (h.bounds k less i);
  preserve = h.preserve;
}

like_branch : (c d : Processor) (prefixed : Bool) (a b : ℕ) → a ≡ b → Like c d → Like (branched c prefixed a) (branched d prefixed b)
like_branch c d prefixed a b e h = record {
  regs = h.regs;
  flags = h.flags;
  rip = e;
  bounds = λ k less. (λ i. (cond (prefixed || h.preserve i) c.bounds init_bounds) k) ∙ widened (prefixed || d.preserve) k (h.bounds k less);
  preserve = h.preserve;
}
  where
    widened : (b : Bool) (k : ℕ) → c.bounds k ≡ d.bounds k → (cond b c.bounds init_bounds) k ≡ (cond b d.bounds init_bounds) k
    widened true k e = e
    widened false k e = refl

module _ (c d : Processor) (next : ℕ) (h : Like c d) where
  same_value : (w r : ℕ) → r < 16 → reg_value c w r ≡ reg_value d w r
  same_value w r few = ap (low w) (h.regs r few)

  same_base : (b : Base) (x : Option (Reg × ℕ)) → base_ok b x ≡ true → base_value c.regs next b ≡ base_value d.regs next b
  same_base NoBase x ok = refl
  same_base (BaseReg r) x ok = h.regs r.0 (below_16 r.0 ok)
  same_base Rip x ok = refl

  same_index : (x : Option (Reg × ℕ)) → index_ok x ≡ true → index_value c.regs x ≡ index_value d.regs x
  same_index None ok = refl
  same_index (Some x) ok = ap (λ (n : ℕ). n * x.1) (h.regs x.0.0 (below_16 x.0.0 ((and_parts _ _ ((and_parts _ _ ok).0)).0)))

  same_index_reg : (x : Option (Reg × ℕ)) → index_ok x ≡ true → index_register c.regs x ≡ index_register d.regs x
  same_index_reg None ok = refl
  same_index_reg (Some x) ok = h.regs x.0.0 (below_16 x.0.0 ((and_parts _ _ ((and_parts _ _ ok).0)).0))

  base_of : (m : Mem) → mem_ok m ≡ true → base_ok m.base m.index ≡ true
  base_of m ok = (and_parts _ _ ((and_parts _ _ ok).0)).0

  index_of : (m : Mem) → mem_ok m ≡ true → index_ok m.index ≡ true
  index_of m ok = (and_parts _ _ ((and_parts _ _ ok).0)).1

  same_address : (m : Mem) → mem_ok m ≡ true → address c.regs next m ≡ address d.regs next m
  unfolding address
  same_address m ok = let a = same_base m.base m.index (base_of m ok) in let b = same_index m.index (index_of m ok) in rw (a, b) refl

  same_pointer : (m : Mem) → mem_ok m ≡ true → pointer_address c.regs next m ≡ pointer_address d.regs next m
  unfolding pointer_address
  same_pointer m ok = let a = same_base m.base m.index (base_of m ok) in rw a refl

  value_like : (w : ℕ) (rm : Rm) (f g : ℕ → Program) → rm_ok rm ≡ true → ((v : ℕ) → LikeProgram (f v) (g v)) → LikeProgram (value_then c next w rm f) (value_then d next w rm g)
  value_like w (InReg r) f g ok k = subst (λ (v : ℕ). LikeProgram (f (reg_value c w r.0)) (g v)) (same_value w r.0 (below_16 r.0 ok)) (k (reg_value c w r.0))
  value_like w (InMem m) f g ok k = (same_address m ok, refl, refl, λ v. k (low w v))

  written_like : (w : ℕ) (rm : Rm) (v u : ℕ) (a b : Processor) → rm_ok rm ≡ true → v ≡ u → Like a b → LikeProgram (written_to c next w rm v a) (written_to d next w rm u b)
  written_like w (InReg r) v u a b ok e l = like_result a b w r.0 v u (below_16 r.0 ok) e l
  written_like w (InMem m) v u a b ok e l = (same_address m ok, refl, ap (low w) e, refl, l)

  operated_like : (op : Operation) (w : ℕ) (rm : Rm) (a b e : ℕ) → rm_ok rm ≡ true → b ≡ e → LikeProgram (operated c next op w rm a b) (operated d next op w rm a e)
  operated_like op w rm a b e ok same =
      let flags : flags_after op w a b c.flags ≡ flags_after op w a e d.flags = λ i. flags_after op w a (same i) (h.flags i) in
      let after = like_flags (at_next c next) (at_next d next) _ _ flags (like_rip c d next h) in
      elim (writes_result op) as (λ x. LikeProgram (cond x (written_to c next w rm (result_of op w a b) (with_flags_after c next op w a b)) (Ends (with_flags_after c next op w a b)))
      (cond x (written_to d next w rm (result_of op w a e) (with_flags_after d next op w a e)) (Ends (with_flags_after d next op w a e)))) [
        | true ↦ written_like w rm _ _ _ _ ok (ap (result_of op w a) same) after
        | false ↦ after
      ]

  pushed_like : (v u : ℕ) (a b : Processor) → v ≡ u → Like a b → LikeProgram (pushed c v a) (pushed d u b)
  pushed_like v u a b e l = (ap below_stack (h.regs 4 (omega arith)), refl, ap (low 64) e, refl, like_stack a b _ _ (ap below_stack (h.regs 4 (omega arith))) l)

  checked_like : (violates fails : Bool) (v u : ℕ) (a b : Bounds) → violates ≡ fails → v ≡ u → a ≡ b → LikeProgram (checked c next violates v a) (checked d next fails u b)
  checked_like violates fails v u a b same e f = subst (λ (x : Bool). LikeProgram (checked c next violates v a) (checked d next x u b)) same
      (subst (λ (n : ℕ). LikeProgram (checked c next violates v a) (checked d next violates n b)) e (subst (λ (n : Bounds). LikeProgram (checked c next violates v a) (checked d next violates v n)) f (both violates)))
    where
      both : (x : Bool) → LikeProgram (checked c next x v a) (checked d next x v a)
      both true = (refl, record { regs = h.regs; flags = h.flags; rip = h.rip; bounds = h.bounds; preserve = h.preserve })
      both false = like_rip c d next h

  quotient_like : (w : ℕ) (o p : Option (ℕ × ℕ)) → o ≡ p → LikeProgram (quotient_kept c next w o) (quotient_kept d next w p)
  quotient_like w o p e = subst (λ (x : Option (ℕ × ℕ)). LikeProgram (quotient_kept c next w o) (quotient_kept d next w x)) e (both o)
    where
      both : (x : Option (ℕ × ℕ)) → LikeProgram (quotient_kept c next w x) (quotient_kept d next w x)
      both None = (refl, h)
      both (Some q) = like_flags _ _ no_flags no_flags refl (like_result _ _ w 2 q.1 q.1 (omega arith) refl (like_result _ _ w 0 q.0 q.0 (omega arith) refl (like_rip c d next h)))

  one_like : (op w : ℕ) (rm : Rm) (a : ℕ) → rm_ok rm ≡ true → LikeProgram (one_operand c next op w rm a) (one_operand d next op w rm a)
  one_like op w rm a ok =
      let hi = same_value w 2 (omega arith) in
      let lo = same_value w 0 (omega arith) in
      choose (op == 0) _ _ _ _ (operated_like Not w rm a 0 0 ok refl)
      (choose (op == 1) _ _ _ _ (operated_like Neg w rm a 0 0 ok refl)
      (choose (op == 2) _ _ _ _ (quotient_like w _ _ (λ i. divided w (hi i) (lo i) a)) (quotient_like w _ _ (λ i. divided_signed w (hi i) (lo i) a))))
    where
      choose : (b : Bool) (p q r s : Program) → LikeProgram p r → LikeProgram q s → LikeProgram (cond b p q) (cond b r s)
      choose true p q r s x y = x
      choose false p q r s x y = y

  checked_value_like : (rm : Rm) → rm_ok rm ≡ true → checked_value c next rm ≡ checked_value d next rm
  checked_value_like (InReg r) ok = h.regs r.0 (below_16 r.0 ok)
  checked_value_like (InMem m) ok = same_address m ok

  bounds_like : (b : ℕ) (rm : Rm) → bnd_rm_ok rm ≡ true → LikeProgram (bounds_then c next rm (λ x. Ends (with_bnd (at_next c next) b x))) (bounds_then d next rm (λ x. Ends (with_bnd (at_next d next) b x)))
  bounds_like b (InReg r) ok = like_bnd (at_next c next) (at_next d next) b _ _ (h.bounds r.0 (below_4 r.0 ok)) (like_rip c d next h)
  bounds_like b (InMem m) ok = (same_address m ok, refl, refl, λ v. like_bnd (at_next c next) (at_next d next) b _ _ refl (like_rip c d next h))

  abbrev Rows : Instr → Type 0
  Rows i = LikeProgram (row i next c) (row i next d)

  last_of : (x y : Bool) → (x && y) ≡ true → y ≡ true
  last_of x y e = (and_parts x y e).1

  front_of : (x y : Bool) → (x && y) ≡ true → x ≡ true
  front_of x y e = (and_parts x y e).0

  reg_few : (r : Reg) → reg_ok r ≡ true → r.0 < 16
  reg_few r ok = below_16 r.0 ok

  at_rip : Like (at_next c next) (at_next d next)
  at_rip = like_rip c d next h

  -- the row of a valid instruction does alike
  pub rows_like : (i : Instr) → valid_of i ≡ true → Rows i
  unfolding row
  rows_like (MovTo w r rm) ok = written_like w rm _ _ _ _ (last_of _ _ ok) (same_value w r.0 (reg_few r (last_of _ _ (front_of _ _ ok)))) at_rip
  rows_like (MovFrom w r m) ok = (same_address m (last_of _ _ ok), refl, refl, λ v. like_result _ _ w r.0 (low w v) (low w v) (reg_few r (last_of _ _ (front_of _ _ ok))) refl at_rip)
  rows_like (MovMemImm w m imm) ok = (same_address m (last_of _ _ (front_of _ _ ok)), refl, refl, refl, at_rip)
  rows_like (MovImm w r imm) ok = like_result _ _ w r.0 _ _ (reg_few r (last_of _ _ (front_of _ _ ok))) refl at_rip
  rows_like (Movsxd r rm) ok = value_like 32 rm _ _ (last_of _ _ ok) (λ v. like_result _ _ 64 r.0 _ _ (reg_few r (front_of _ _ ok)) refl at_rip)
  rows_like (Movsx w from r rm) ok = value_like from rm _ _ (last_of _ _ ok) (λ v. like_result _ _ w r.0 _ _ (reg_few r (last_of _ _ (front_of _ _ ok))) refl at_rip)
  rows_like (Movzx from r rm) ok = value_like from rm _ _ (last_of _ _ ok) (λ v. like_result _ _ 32 r.0 _ _ (reg_few r (last_of _ _ (front_of _ _ ok))) refl at_rip)
  rows_like (Lea r m) ok = like_result _ _ 64 r.0 _ _ (reg_few r (front_of _ _ ok)) (same_address m (last_of _ _ ok)) at_rip
  rows_like (AluTo op w r rm) ok = value_like w rm _ _ (last_of _ _ ok) (λ a. operated_like (alu_operation op) w rm a _ _ (last_of _ _ ok) (same_value w r.0 (reg_few r (last_of _ _ (front_of _ _ ok)))))
  rows_like (AluFrom op w r m) ok = (
    same_address m (last_of _ _ ok),
    refl,
    refl,
    λ v. subst (λ (a : ℕ). LikeProgram (operated c next (alu_operation op) w (InReg r) (reg_value c w r.0) (low w v)) (operated d next (alu_operation op) w (InReg r) a (low w v)))
        (same_value w r.0 (reg_few r (last_of _ _ (front_of _ _ ok)))) (operated_like (alu_operation op) w (InReg r) (reg_value c w r.0) _ _ (last_of _ _ (front_of _ _ ok)) refl),
  )
  rows_like (AluImm op w rm imm) ok = value_like w rm _ _ (last_of _ _ (front_of _ _ ok)) (λ a. operated_like (alu_operation op) w rm a _ _ (last_of _ _ (front_of _ _ ok)) refl)
  rows_like (TestRm w r rm) ok = value_like w rm _ _ (last_of _ _ ok) (λ a. operated_like Test w rm a _ _ (last_of _ _ ok) (same_value w r.0 (reg_few r (last_of _ _ (front_of _ _ ok)))))
  rows_like (ImulRm w r rm) ok = value_like w rm _ _ (last_of _ _ ok) (λ v. subst (λ (a : ℕ). LikeProgram (operated c next Imul w (InReg r) (reg_value c w r.0) v) (operated d next Imul w (InReg r) a v))
      (same_value w r.0 (reg_few r (last_of _ _ (front_of _ _ ok)))) (operated_like Imul w (InReg r) (reg_value c w r.0) v v (last_of _ _ (front_of _ _ ok)) refl))
  rows_like (One op w rm) ok = value_like w rm _ _ (last_of _ _ ok) (λ a. one_like op w rm a (last_of _ _ ok))
  rows_like (Wide w) ok = like_result _ _ w 2 _ _ (omega arith) (ap (λ (a : ℕ). if is_negative w a then 2 ^ w - 1 else 0) (same_value w 0 (omega arith))) at_rip
  rows_like (ShiftCl op w rm) ok = value_like w rm _ _ (last_of _ _ ok) (λ a. operated_like (shift_operation op) w rm a _ _ (last_of _ _ ok) (same_value 8 1 (omega arith)))
  rows_like (ShiftImm op w rm imm) ok = value_like w rm _ _ (last_of _ _ (front_of _ _ ok)) (λ a. operated_like (shift_operation op) w rm a _ _ (last_of _ _ (front_of _ _ ok)) refl)
  rows_like (Set op rm) ok = written_like 8 rm _ _ _ _ (last_of _ _ ok) (ap (λ (f : Flags). if holds op f then 1 else 0) h.flags) at_rip
  rows_like (Push r) ok = pushed_like _ _ _ _ (h.regs r.0 (reg_few r ok)) at_rip
  rows_like (Pop r) ok = (h.regs 4 (omega arith), refl, refl, λ v. like_result _ _ 64 r.0 v v (reg_few r ok) refl (like_stack _ _ _ _ (ap above_stack (h.regs 4 (omega arith))) at_rip))
  rows_like (CallRel prefixed rel) ok = pushed_like next next _ _ refl (like_branch c d prefixed _ _ refl h)
  rows_like (CallRm prefixed rm) ok = value_like 64 rm _ _ ok (λ target. pushed_like next next _ _ refl (like_branch c d prefixed target target refl h))
  rows_like (JmpRel prefixed rel) ok = like_branch c d prefixed _ _ refl h
  rows_like (JmpRm prefixed rm) ok = value_like 64 rm _ _ ok (λ target. like_branch c d prefixed target target refl h)
  rows_like (Jcc prefixed op rel) ok = like_branch c d prefixed _ _ (ap (λ (f : Flags). if holds op f then branch_target next rel else next) h.flags) h
  rows_like (Ret prefixed) ok = (h.regs 4 (omega arith), refl, refl, λ target. like_stack _ _ _ _ (ap above_stack (h.regs 4 (omega arith))) (like_branch c d prefixed (low 64 target) (low 64 target) refl h))
  rows_like Syscall ok = like_result _ _ 64 11 0 0 (omega arith) refl (like_result _ _ 64 1 next next (omega arith) refl at_rip)
  rows_like Ud2 ok = (refl, h)
  rows_like Nop ok = at_rip
  rows_like (Bndmk b m) ok = like_bnd _ _ b _ _ (λ i. record { lb = same_base m.base m.index (base_of m (last_of _ _ (front_of _ _ ok))) i; ub = same_address m (last_of _ _ (front_of _ _ ok)) i }) at_rip
  rows_like (Bndcl b rm) ok = let e = checked_value_like rm (last_of _ _ ok) in let f = h.bounds b (below_4 b (front_of _ _ ok)) in checked_like _ _ _ _ _ _ (λ i. nat_lt (e i) (f i).lb) e f
  rows_like (Bndcu b rm) ok = let e = checked_value_like rm (last_of _ _ ok) in let f = h.bounds b (below_4 b (front_of _ _ ok)) in checked_like _ _ _ _ _ _ (λ i. nat_lt (f i).ub (e i)) e f
  rows_like (Bndcn b rm) ok = let e = checked_value_like rm (last_of _ _ ok) in let f = h.bounds b (below_4 b (front_of _ _ ok)) in checked_like _ _ _ _ _ _ (λ i. nat_lt (complement (f i).ub) (e i)) e f
  rows_like (BndmovTo b m) ok = (same_address m (last_of _ _ ok), refl, ap as_stored (h.bounds b (below_4 b (front_of _ _ ok))), refl, at_rip)
  rows_like (BndmovFrom b rm) ok = bounds_like b rm (last_of _ _ ok)
  rows_like (Bndldx b m) ok = (same_pointer m (last_of _ _ (front_of _ _ ok)), same_index_reg m.index (index_of m (last_of _ _ (front_of _ _ ok))), λ x. like_bnd _ _ b x x refl at_rip)
  rows_like (Bndstx b m) ok = (same_pointer m (last_of _ _ (front_of _ _ ok)), same_index_reg m.index (index_of m (last_of _ _ (front_of _ _ ok))), h.bounds b (below_4 b (front_of _ _ (front_of _ _ ok))), at_rip)
