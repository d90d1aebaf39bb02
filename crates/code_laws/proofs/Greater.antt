-- The greater of two words.
use Rattle.std.specs.Prelude.{nat_le, if◌then◌else◌, ℤ, pos}
use Rattle.std.proofs.Common.{◌≡◌, ℕ, ◌+◌, ◌^◌, ◌<◌, ◌≤◌, inl, inr, max, Bool, true, false, cond, nat_eq, List, ◌++◌, length, refl, arith, ap, ◌∙◌, sym, subst}
use Rattle.std.proofs.lemmas.Int.{ints}
use Rattle.std.proofs.lemmas.Bool.{cases_lt}
use Rattle.std.proofs.lemmas.Bool.Decides.{nat_tests}
use Rattle.x86_forms.specs.declared.instr.Instr.TheVariants.{MovTo, Jcc}
use Rattle.x86_forms.specs.Arithmetic.{holds, flags_after, Cmp, low}
use Rattle.x86_forms.proofs.Conditions.{compare_64}
use Rattle.x86_forms.specs.Examples.{reg, in_reg}
use Rattle.x86_forms.specs.Processor.{Processor, with_reg}
use Rattle.x86_forms.specs.Spelling.{spelling, low_bytes, mod_of, disp_bytes, scale_code, modrm, sib, over_base, mem_bytes, rm_bytes, index_high, base_high, rm_high, high_bits, is_low, rm_is_low, forces_rex, rex_bits, rex_bytes, prefix_bytes, escape_bytes, operand_bytes}
use Rattle.x86_forms.specs.Table.{at_next}
use Rattle.obj_file.specs.Stored.{Stored}
use Rattle.step_code.specs.declared.pieces.Piece.{Piece}
use Rattle.step_code.specs.Pieces.{relative}
use Rattle.code_laws.specs.Views.{View, Came, jumped, with_slot, with_word}
use Rattle.code_laws.specs.Seen.{Setting, IsSetting, Seen}
use Rattle.code_laws.specs.Laid.{Stands}
use Rattle.step_code.specs.Steps.{greater_of}
use Rattle.code_laws.specs.Laid.{StandAll}
use Rattle.code_laws.specs.Runs.{Whole}
use Rattle.code_laws.proofs.Leading.{After, leads_then}
use Rattle.code_laws.specs.Runs.{whole_of, Leads}
use Rattle.code_laws.proofs.Pieces.{with_reg_leaves, leaves_all, plain_goes, load_slot, keep_slot, go_if}
use Rattle.step_code.specs.Homes.{IsFree}
use Rattle.code_laws.proofs.Numbers.{compared_flags, cmp_row}
use Rattle.code_laws.proofs.Homes.{with_scratch, at_address, moved_row, rax_scratched, rcx_scratched}
use Rattle.step_code.specs.Homes.{IsHomeReg}
use Rattle.code_laws.proofs.Labels.{stands_on}

rel_skip : (next skip : ℕ) → pos skip ≡ relative (next + skip) next
rel_skip next skip = omega (arith, ints)

mov_size : length (spelling (MovTo 64 (reg 1) (in_reg 0))) ≡ 3
unfolding low_bytes mod_of disp_bytes scale_code modrm sib over_base mem_bytes rm_bytes index_high base_high rm_high high_bits is_low rm_is_low forces_rex rex_bits rex_bytes prefix_bytes escape_bytes operand_bytes
mov_size = refl

-- a register written with what it holds
same_regs : (regs : ℕ → ℕ) (n : ℕ) → n ≡ regs 0 → regs ≡ with_reg regs 0 n
same_regs regs n is = λ i k. (by_test k (nat_eq k 0) refl) i
  where
    by_test : (k : ℕ) (b : Bool) → nat_eq k 0 ≡ b → regs k ≡ cond b n (regs k)
    by_test k true e = let zero_is : k ≡ 0 = grind (arith, nat_tests) in ap regs zero_is ∙ sym is
    by_test k false e = refl

at_least : (x y : ℕ) (c : Processor) → c.regs 0 ≡ x → c.regs 1 ≡ y → x < 2 ^ 64 → y < 2 ^ 64 → y ≤ x → holds 3 (compared_flags c) ≡ true
at_least x y c is_x is_y small_x small_y le =
    let e : low 64 (c.regs 0) ≡ x = omega arith in
    let f : low 64 (c.regs 1) ≡ y = omega arith in
    (λ i. holds 3 (flags_after Cmp 64 (e i) (f i) c.flags)) ∙ (compare_64 x y c.flags small_x small_y).at_least.1 le

not_least : (x y : ℕ) (c : Processor) → c.regs 0 ≡ x → c.regs 1 ≡ y → x < 2 ^ 64 → y < 2 ^ 64 → x < y → holds 3 (compared_flags c) ≡ false
not_least x y c is_x is_y small_x small_y less =
    let e : low 64 (c.regs 0) ≡ x = omega arith in
    let f : low 64 (c.regs 1) ≡ y = omega arith in
    (λ i. holds 3 (flags_after Cmp 64 (e i) (f i) c.flags)) ∙ by (holds 3 (flags_after Cmp 64 x y c.flags)) refl
  where
    by : (b : Bool) → holds 3 (flags_after Cmp 64 x y c.flags) ≡ b → holds 3 (flags_after Cmp 64 x y c.flags) ≡ false
    by true h = let wrong = (compare_64 x y c.flags small_x small_y).at_least.0 h in absurd (omega arith)
    by false h = h

told : (x y : ℕ) (c : Processor) → c.regs 0 ≡ x → c.regs 1 ≡ y → x < 2 ^ 64 → y < 2 ^ 64 → holds 3 (compared_flags c) ≡ true → y ≤ x
told x y c is_x is_y small_x small_y h = elim (cases_lt x y) [
  | inl less ↦ let wrong = not_least x y c is_x is_y small_x small_y less in absurd (cc)
  | inr le ↦ le
]

untold : (x y : ℕ) (c : Processor) → c.regs 0 ≡ x → c.regs 1 ≡ y → x < 2 ^ 64 → y < 2 ^ 64 → holds 3 (compared_flags c) ≡ false → x < y
untold x y c is_x is_y small_x small_y h = elim (cases_lt x y) [
  | inl less ↦ less
  | inr le ↦ let wrong = at_least x y c is_x is_y small_x small_y le in absurd (cc)
]

rax_free : IsFree 0
rax_free = record { rbx = refl; rsp = refl; rbp = refl; r12 = refl; r13 = refl; r14 = refl; r15 = refl }

rcx_free : IsFree 1
rcx_free = record { rbx = refl; rsp = refl; rbp = refl; r12 = refl; r13 = refl; r14 = refl; r15 = refl }

module _ (S : Setting) (ok : IsSetting S) where
  -- rax made the greater of rax and rcx, of which the flags tell
  pick : (P : Whole Stored → Type 0) (v : View) (y : Stored) (n n1 n2 a b : ℕ) → Seen S v y → v.processor.regs 0 ≡ a → v.processor.regs 1 ≡ b → (holds 3 v.processor.flags ≡ true → b ≤ a) → (holds 3 v.processor.flags ≡ false → a < b)
      → Stands S.code v.processor.rip (Jcc true 3 (pos 3)) n1 → Stands S.code n1 (MovTo 64 (reg 1) (in_reg 0)) n2 → n1 + 3 ≡ n2
      → ((z : Stored) (j : ℕ) → Seen S (with_scratch v n2 0 (max a b)) z → P (whole_of S (with_scratch v n2 0 (max a b)) z j)) → P (whole_of S v y n)
  pick P v y n n1 n2 a b seen is_a is_b yes_then no_then s1 s2 size f =
      let first = stands_on S _ _ _ s1 in
      let second = stands_on S _ _ _ s2 in
      let target : n1 + 3 < 2 ^ 62 = omega arith in
      let h : Stands S.code v.processor.rip (Jcc true 3 (relative (n1 + 3) n1)) n1 = subst (λ (z : ℤ). Stands S.code v.processor.rip (Jcc true 3 z) n1) (rel_skip n1 3) s1 in
      by_flag (holds 3 v.processor.flags) refl (go_if S ok v y n n1 3 (n1 + 3) (record { seen = seen; stands = h }) target)
    where
      by_flag : (t : Bool) → holds 3 v.processor.flags ≡ t → After S (whole_of S v y n) (if holds 3 v.processor.flags then jumped v (n1 + 3) else Came.On (at_address v n1)) → P (whole_of S v y n)
      by_flag true e went =
          let first = stands_on S _ _ _ s1 in
          let ahead : nat_le (n1 + 3) v.processor.rip ≡ false = grind (arith, nat_tests) in
          let u : View = record v { processor = record v.processor { rip = n1 + 3 } } in
          let leads : Leads S (whole_of S v y n) u = subst (λ (b : Bool). After S (whole_of S v y n) (if b then Came.Turn u else Came.On u)) ahead (subst (λ (b : Bool). After S (whole_of S v y n) (if b then jumped v (n1 + 3) else Came.On (at_address v n1))) e went) in
          let le = yes_then e in
          let value : max a b ≡ v.processor.regs 0 = omega arith in
          let same : u ≡ with_scratch v n2 0 (max a b) = λ i. record v { processor = record v.processor { rip = size i; regs = same_regs v.processor.regs (max a b) value i } } in
          leads_then S P (whole_of S v y n) (with_scratch v n2 0 (max a b)) (subst (Leads S (whole_of S v y n)) same leads) f
      by_flag false e went =
          let less = no_then e in
          let value : v.processor.regs 1 ≡ max a b = omega arith in
          let leads : Leads S (whole_of S v y n) (at_address v n1) = subst (λ (b : Bool). After S (whole_of S v y n) (if b then jumped v (n1 + 3) else Came.On (at_address v n1))) e went in
          leads_then S P (whole_of S v y n) (at_address v n1) leads (λ z j seen1.
          leads_then S P _ (with_scratch v n2 0 (max a b)) (subst (λ (x : ℕ). Leads S (whole_of S (at_address v n1) z j) (with_scratch v n2 0 x)) value
          (plain_goes S ok (at_address v n1) z j n2 _ (with_word (at_next v.processor n2) 0 (v.processor.regs 1)) (record { seen = seen1; stands = s2 }) (record { call = refl; return = refl; service = refl; accesses_none = refl; is_row = moved_row (at_next v.processor n1) n2 1 0 (seen1.words.regs_fit 1); is_next = refl; leaves = with_reg_leaves v.processor.regs 0 (v.processor.regs 1) rax_free; preserve = refl }))) f)

  -- what is left by it, but for one word of the frame
  pub record LeavesHomes (v u : View) : Type 0 where
    pub regs : (r : ℕ) → IsHomeReg r → u.processor.regs r ≡ v.processor.regs r
    pub bounds : u.processor.bounds ≡ v.processor.bounds
    pub world : u.world ≡ v.world

  pub greater_goes : (P : Whole Stored → Type 0) (v : View) (y : Stored) (n j k : ℕ) (more : List Piece) (stop_at : ℕ) → StandAll S.code S.label_at S.entry_at v.processor.rip (greater_of j k ++ more) stop_at → j < S.units → k < S.units → Seen S v y
      → ((u : View) (z : Stored) (m : ℕ) → Seen S u z → StandAll S.code S.label_at S.entry_at u.processor.rip more stop_at → LeavesHomes v u → u.slots ≡ with_slot j (max (v.slots j) (v.slots k)) v.slots → P (whole_of S u z m)) → P (whole_of S v y n)
  greater_goes P v y n j k more stop_at l few_j few_k seen f =
      let l2 = l.2 in
      let l3 = l2.2 in
      let l4 = l3.2 in
      let l5 = l4.2 in
      let l6 = l5.2 in
      let a = v.slots j in
      let b = v.slots k in
      let v1 = with_scratch v l.0 0 a in
      let v2 = with_scratch v1 l2.0 1 b in
      let v3 : View = record v2 { processor = record (at_next v2.processor l3.0) { flags = compared_flags v2.processor } } in
      let v4 = with_scratch v3 l5.0 0 (max a b) in
      let v5 : View = record v4 { processor = at_next v4.processor l6.0; slots = with_slot j (max a b) v.slots } in
      leads_then S P _ v1 (load_slot S ok v y n l.0 0 j (record { seen = seen; stands = l.1 }) few_j rax_free) (λ y1 n1 seen1.
      leads_then S P _ v2 (load_slot S ok v1 y1 n1 l2.0 1 k (record { seen = seen1; stands = l2.1 }) few_k rcx_free) (λ y2 n2 seen2.
      let small_a : a < 2 ^ 64 = seen2.words.regs_fit 0 in
      let small_b : b < 2 ^ 64 = seen2.words.regs_fit 1 in
      leads_then S P _ v3 (plain_goes S ok v2 y2 n2 l3.0 _ v3.processor (record { seen = seen2; stands = l3.1 }) (record { call = refl; return = refl; service = refl; accesses_none = refl; is_row = cmp_row v2.processor l3.0; is_next = refl; leaves = leaves_all v2.processor.regs; preserve = refl })) (λ y3 n3 seen3.
      pick P v3 y3 n3 l4.0 l5.0 a b seen3 refl refl (told a b v2.processor refl refl small_a small_b) (untold a b v2.processor refl refl small_a small_b) l4.1 l5.1 (ap (λ (x : ℕ). l4.0 + x) (sym mov_size) ∙ l5.1.is_next)
      (λ y4 n4 seen4. leads_then S P _ v5 (keep_slot S ok v4 y4 n4 l6.0 j 0 (record { seen = seen4; stands = l6.1 }) few_j)
      (λ y5 n5 seen5. f v5 y5 n5 seen5 l6.2
      (let c = rax_scratched v l.0 a in let d = rcx_scratched v1 l2.0 b in let e = rax_scratched v3 l5.0 (max a b) in record { regs = λ r h. e.regs r h ∙ d.regs r h ∙ c.regs r h; bounds = refl; world = refl }) refl)))))
