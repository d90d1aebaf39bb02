-- The steps of forms that change a place, and of elements and members.
use Rattle.std.proofs.Common.{◌≡◌, ℕ, ◌+◌, ◌==◌, Bool, true, false, true≢false, Option, None, Some, List, [], ◌∷◌, ◌++◌, refl, sym, ap, ◌∙◌, arith}
use Rattle.std.proofs.lemmas.List.{append-nil, append_assoc}
use Rattle.std.specs.Prelude.{not}
use Rattle.mx_base.specs.declared.numbers.IntKind.{IntKind}
use Rattle.mx_base.specs.declared.numbers.IntKind.TheVariants.{I32, U64}
use Rattle.mx_base.specs.declared.places.Place.{Place}
use Rattle.mx_base.specs.declared.operators.Arithmetic.{Arithmetic}
use Rattle.mx_base.specs.declared.operators.Arithmetic.TheVariants.{Add}
use Rattle.narrowing.specs.declared.member.Rule.{Rule}
use Rattle.narrowing.specs.declared.member.Rule.TheVariants.{Keep, Meet}
use Rattle.narrowing.specs.Member.{member_rule}
use Rattle.c_types.specs.Types.{CType}
use Rattle.fat_ir.specs.declared.step.FatStep.{FatStep}
use Rattle.fat_ir.specs.declared.step.FatStep.TheVariants as s
use Rattle.bounds_plan.specs.meaning.Core.{NumberExpr, Word, PointerExpr}
use Rattle.bounds_plan.specs.steps.Code.{labels_ptr, code, code_ptr, scaled, ruled, offset_by, before_or_after}
use Rattle.bounds_plan.specs.elaboration.Types.{Value, Numeric, Sort, ANumber, APointer, AWhole, NoValue, sort_of, is_array, kind_of, target_of, size_in, step_in, number_in, pointer_in, given, given_as, done_in}
use Rattle.bounds_plan.specs.elaboration.Places.{Lvalue, NumberVariable, PointerVariable, InMemory, written_as, changed_as, element_at, under_rule, struct_of, offset_in}
use Rattle.bounds_plan.specs.elaboration.Source.{Reached, Around}
use Rattle.bounds_plan.specs.elaboration.Expressions.{Found, a_place, assigned, assign_by, changed, stepped_by, index_rule, index, member_named, member, arrow}
use Rattle.steps_facts.specs.declared.seen.Sorted.{Sorted}
use Rattle.steps_facts.specs.declared.seen.Sorted.TheVariants as o
use Rattle.steps_facts.specs.declared.seen.Spot.{Spot}
use Rattle.steps_facts.specs.declared.seen.Spot.TheVariants as sp
use Rattle.steps_facts.specs.Seen.{sorted, kind_in, facts_of, is_number, spot_of, seen_in}
use Rattle.steps_facts.specs.Around.{index_of, trails}
use Rattle.steps_pieces.specs.Operators.{step_operator}
use Rattle.steps_pieces.specs.Wanted.{code_value, labels_value, code_lvalue, labels_lvalue, code_wanted, labels_wanted, ending, addressing, read_unless, code_given, labels_given, given_number, reads_number}
use Rattle.steps_pieces.specs.Own.{is_copied, value_at, assigned_sort, storing, changing, changing_number, number_read, number_written, right_extending, assigned_steps, assigned_own, one_for, stepped_own, part_ruled, element_own, member_own}
use Rattle.steps_pieces.specs.Put.{Put, added, went, went_given}
use Rattle.c_look.proofs.Values.{written_number, changed_number, given_is_number}
use Rattle.c_emit.proofs.Goes.{went_as, zero_on, one, pair, two}
use Rattle.c_emit.proofs.Codes.{kind_by, ended, ended_labels, read, read_labels, number_code, number_labels, address_code, address_labels, number_right, number_right_labels, number_given, number_given_labels, pointer_code, pointer_labels, given_code, given_labels}

zero_and : (n : ℕ) → n ≡ 0 + n
zero_and n = omega arith

-- ---- a value is written

written_code : (k : Sort) (lv : Lvalue) (q : Place) (t : CType) (x : Value) (d l : ℕ) → is_copied (spot_of lv) (sorted k) ≡ false
    → code_value (written_as k q lv (given_as k t x)) d l
    ≡ code_lvalue lv d l ++ (code_given (sorted k) (kind_of t) x (value_at (spot_of lv) d) (l + labels_lvalue lv) ++ storing (spot_of lv) (sorted k) (given_number (sorted k) (is_number x)) q d)
written_code k (NumberVariable y) q t x d l h = ap (λ (c : List FatStep). c ++ (s.Copy y d ∷ [])) (number_code (given_as k t x) d l ∙ given_code k t x d l)
    ∙ ap (λ (m : ℕ). code_given (sorted k) (kind_of t) x d m ++ (s.Copy y d ∷ [])) (sym (zero_on l))
written_code k (PointerVariable y) q t x d l h = ap (λ (c : List FatStep). c ++ (s.Copy y d ∷ s.Copy (y + 1) (d + 1) ∷ [])) (address_code (given_as k t x) d l)
    ∙ append_assoc (code_value (given_as k t x) d l) (addressing (is_number (given_as k t x)) d) _
    ∙ ap (λ (c : List FatStep). c ++ (addressing (is_number (given_as k t x)) d ++ (s.Copy y d ∷ s.Copy (y + 1) (d + 1) ∷ []))) (given_code k t x d l)
    ∙ ap (λ (n : Bool). code_given (sorted k) (kind_of t) x d l ++ (addressing n d ++ (s.Copy y d ∷ s.Copy (y + 1) (d + 1) ∷ []))) (given_is_number k t x)
    ∙ ap (λ (m : ℕ). code_given (sorted k) (kind_of t) x d m ++ (addressing (given_number (sorted k) (is_number x)) d ++ (s.Copy y d ∷ s.Copy (y + 1) (d + 1) ∷ []))) (sym (zero_on l))
written_code (ANumber kind) (InMemory p) q t x d l h = ap (λ (c : List FatStep). code_ptr p d l ++ (c ++ storing sp.Memory (o.Number kind) true q d)) (number_given (kind_of t) kind x (d + 2) (l + labels_ptr p))
written_code APointer (InMemory p) q t x d l h = ap (λ (c : List FatStep). code_ptr p d l ++ (c ++ storing sp.Memory o.Pointer false q d)) (pointer_code x (d + 2) (l + labels_ptr p))
written_code AWhole (InMemory p) q t x d l h = absurd (true≢false h)
written_code NoValue (InMemory p) q t x d l h = absurd (true≢false h)

written_labels : (k : Sort) (lv : Lvalue) (q : Place) (t : CType) (x : Value) → is_copied (spot_of lv) (sorted k) ≡ false → labels_value (written_as k q lv (given_as k t x)) ≡ labels_lvalue lv + labels_given (sorted k) x
written_labels k (NumberVariable y) q t x h = number_labels (given_as k t x) ∙ given_labels k t x ∙ zero_and (labels_given (sorted k) x)
written_labels k (PointerVariable y) q t x h = address_labels (given_as k t x) ∙ given_labels k t x ∙ zero_and (labels_given (sorted k) x)
written_labels (ANumber kind) (InMemory p) q t x h = ap (λ (n : ℕ). labels_ptr p + n) (number_given_labels (kind_of t) kind x)
written_labels APointer (InMemory p) q t x h = ap (λ (n : ℕ). labels_ptr p + n) (pointer_labels x)
written_labels AWhole (InMemory p) q t x h = absurd (true≢false h)
written_labels NoValue (InMemory p) q t x h = absurd (true≢false h)

-- of an array or a struct only the place is left
written_copied : (k : Sort) (lv : Lvalue) (q : Place) (x : Value) (d l : ℕ) → is_copied (spot_of lv) (sorted k) ≡ true → code_value (written_as k q lv x) d l ≡ code_lvalue lv d l
written_copied k (NumberVariable y) q x d l h = absurd (true≢false (sym h))
written_copied k (PointerVariable y) q x d l h = absurd (true≢false (sym h))
written_copied (ANumber kind) (InMemory p) q x d l h = absurd (true≢false (sym h))
written_copied APointer (InMemory p) q x d l h = absurd (true≢false (sym h))
written_copied AWhole (InMemory p) q x d l h = refl
written_copied NoValue (InMemory p) q x d l h = refl

written_copied_labels : (k : Sort) (lv : Lvalue) (q : Place) (x : Value) → is_copied (spot_of lv) (sorted k) ≡ true → labels_value (written_as k q lv x) ≡ labels_lvalue lv
written_copied_labels k (NumberVariable y) q x h = absurd (true≢false (sym h))
written_copied_labels k (PointerVariable y) q x h = absurd (true≢false (sym h))
written_copied_labels (ANumber kind) (InMemory p) q x h = absurd (true≢false (sym h))
written_copied_labels APointer (InMemory p) q x h = absurd (true≢false (sym h))
written_copied_labels AWhole (InMemory p) q x h = refl
written_copied_labels NoValue (InMemory p) q x h = refl

-- ---- a place is changed

changed_code : (kind : IntKind) (k : Sort) (lv : Lvalue) (q : Place) (op : Arithmetic) (from : IntKind) (size : ℕ) (x : Value) (old : Bool) (d l : ℕ) → is_copied (spot_of lv) (sorted k) ≡ false → kind ≡ kind_in (sorted k)
    → code_value (changed_as kind k q lv op from size (number_in x) old) d l ≡ code_lvalue lv d l ++ (code_value x (value_at (spot_of lv) d) (l + labels_lvalue lv) ++ changing (spot_of lv) (sorted k) q op from size old d)
changed_code kind k (NumberVariable y) q op from size x old d l h g = let n = kind_in (sorted k) in
    let T : List FatStep = s.Copy (d + 2) y ∷ s.Arith d op (done_in op n from) (d + 2) d ∷ s.Extend d d n ∷ s.Copy y d ∷ s.Copy d (before_or_after old (d + 2) d) ∷ [] in
    ap (λ (z : IntKind). code_value (changed_as z k q (NumberVariable y) op from size (number_in x) old) d l) g
    ∙ ap (λ (c : List FatStep). c ++ T) (number_right op from (done_in op n from) x d l) ∙ append_assoc (code_value x d l) (right_extending op from (done_in op n from) d) T
    ∙ ap (λ (m : ℕ). code_value x d m ++ changing_number y n op from old d) (sym (zero_on l))
changed_code kind k (PointerVariable y) q op from size x old d l h g = ap (λ (c : List FatStep). c ++ changing (sp.Pointer y) (sorted k) q op from size old d) (number_code x d l)
    ∙ ap (λ (m : ℕ). code_value x d m ++ changing (sp.Pointer y) (sorted k) q op from size old d) (sym (zero_on l))
changed_code kind (ANumber n) (InMemory p) q op from size x old d l h g = let k = done_in op n from in
    let T : List FatStep = number_read q n op k d ++ number_written q n old d in
    ap (λ (c : List FatStep). code_ptr p d l ++ (c ++ T)) (number_right op from k x (d + 2) (l + labels_ptr p))
    ∙ ap (λ (c : List FatStep). code_ptr p d l ++ c) (append_assoc (code_value x (d + 2) (l + labels_ptr p)) (right_extending op from k (d + 2)) T)
changed_code kind APointer (InMemory p) q op from size x old d l h g = ap (λ (c : List FatStep). code_ptr p d l ++ (c ++ changing sp.Memory o.Pointer q op from size old d)) (number_code x (d + 2) (l + labels_ptr p))
changed_code kind AWhole (InMemory p) q op from size x old d l h g = absurd (true≢false h)
changed_code kind NoValue (InMemory p) q op from size x old d l h g = absurd (true≢false h)

changed_labels : (kind : IntKind) (k : Sort) (lv : Lvalue) (q : Place) (op : Arithmetic) (from : IntKind) (size : ℕ) (x : Value) (old : Bool) → is_copied (spot_of lv) (sorted k) ≡ false
    → labels_value (changed_as kind k q lv op from size (number_in x) old) ≡ labels_lvalue lv + labels_value x
changed_labels kind k (NumberVariable y) q op from size x old h = number_right_labels op from _ x ∙ zero_and (labels_value x)
changed_labels kind k (PointerVariable y) q op from size x old h = number_labels x ∙ zero_and (labels_value x)
changed_labels kind (ANumber n) (InMemory p) q op from size x old h = ap (λ (z : ℕ). labels_ptr p + z) (number_right_labels op from _ x)
changed_labels kind APointer (InMemory p) q op from size x old h = ap (λ (z : ℕ). labels_ptr p + z) (number_labels x)
changed_labels kind AWhole (InMemory p) q op from size x old h = absurd (true≢false h)
changed_labels kind NoValue (InMemory p) q op from size x old h = absurd (true≢false h)

changed_copied : (kind : IntKind) (k : Sort) (lv : Lvalue) (q : Place) (op : Arithmetic) (from : IntKind) (size : ℕ) (e : NumberExpr) (old : Bool) (d l : ℕ) → is_copied (spot_of lv) (sorted k) ≡ true
    → code_value (changed_as kind k q lv op from size e old) d l ≡ code_lvalue lv d l
changed_copied kind k (NumberVariable y) q op from size e old d l h = absurd (true≢false (sym h))
changed_copied kind k (PointerVariable y) q op from size e old d l h = absurd (true≢false (sym h))
changed_copied kind (ANumber n) (InMemory p) q op from size e old d l h = absurd (true≢false (sym h))
changed_copied kind APointer (InMemory p) q op from size e old d l h = absurd (true≢false (sym h))
changed_copied kind AWhole (InMemory p) q op from size e old d l h = refl
changed_copied kind NoValue (InMemory p) q op from size e old d l h = refl

changed_copied_labels : (kind : IntKind) (k : Sort) (lv : Lvalue) (q : Place) (op : Arithmetic) (from : IntKind) (size : ℕ) (e : NumberExpr) (old : Bool) → is_copied (spot_of lv) (sorted k) ≡ true
    → labels_value (changed_as kind k q lv op from size e old) ≡ labels_lvalue lv
changed_copied_labels kind k (NumberVariable y) q op from size e old h = absurd (true≢false (sym h))
changed_copied_labels kind k (PointerVariable y) q op from size e old h = absurd (true≢false (sym h))
changed_copied_labels kind (ANumber n) (InMemory p) q op from size e old h = absurd (true≢false (sym h))
changed_copied_labels kind APointer (InMemory p) q op from size e old h = absurd (true≢false (sym h))
changed_copied_labels kind AWhole (InMemory p) q op from size e old h = refl
changed_copied_labels kind NoValue (InMemory p) q op from size e old h = refl

-- ---- assignments

-- what is evaluated and then done to the place a
abbrev pub assigned_value : Option Arithmetic → Around → Found → Found → Value
assigned_value None around a b = assigned a b
assigned_value (Some op) around a b = changed around.structs op a (kind_of b.type) (number_in b.value) false

assigned_ended : (op : Option Arithmetic) (w : Bool) (around : Around) (a b : Found) (q : Place) (r : Reached) (d l : ℕ)
    → code_wanted w (assign_by op around a b q r) d l ≡ code_value (assigned_value op around a b) d l ++ ending w (is_number (assigned_value op around a b)) d
assigned_ended None true around a b q r d l = ended true a.type (assigned a b) q r d l
assigned_ended None false around a b q r d l = ended false a.type (assigned a b) q r d l
assigned_ended (Some op) w around a b q r d l = ended w a.type (assigned_value (Some op) around a b) q r d l

assigned_ended_labels : (op : Option Arithmetic) (w : Bool) (around : Around) (a b : Found) (q : Place) (r : Reached) → labels_wanted w (assign_by op around a b q r) ≡ labels_value (assigned_value op around a b)
assigned_ended_labels None true around a b q r = ended_labels true a.type (assigned a b) q r
assigned_ended_labels None false around a b q r = ended_labels false a.type (assigned a b) q r
assigned_ended_labels (Some op) w around a b q r = ended_labels w a.type (assigned_value (Some op) around a b) q r

assigned_number : (op : Option Arithmetic) (around : Around) (a b : Found) → is_number (assigned_value op around a b) ≡ reads_number (spot_of a.lvalue) (sorted (sort_of a.type))
assigned_number None around a b = written_number (sort_of a.type) a.lvalue a.place (given a.type b.type b.value)
assigned_number (Some op) around a b = changed_number (kind_of a.type) (sort_of a.type) a.lvalue a.place op (kind_of b.type) (step_in around.structs a.type) (number_in b.value) false

assigned_code : (op : Option Arithmetic) (around : Around) (a b : Found) (d l : ℕ) → is_copied (spot_of a.lvalue) (sorted (sort_of a.type)) ≡ false
    → code_value (assigned_value op around a b) d l ≡ code_lvalue a.lvalue d l ++ (code_given (assigned_sort op (sorted (sort_of a.type))) (kind_of b.type) b.value (value_at (spot_of a.lvalue) d) (l + labels_lvalue a.lvalue)
    ++ assigned_steps op (seen_in around.structs a) (seen_in around.structs b) d)
assigned_code None around a b d l h = written_code (sort_of a.type) a.lvalue a.place b.type b.value d l h
assigned_code (Some op) around a b d l h =
    changed_code (kind_of a.type) (sort_of a.type) a.lvalue a.place op (kind_of b.type) (step_in around.structs a.type) b.value false d l h (kind_by a.type)
    ∙ ap (λ (k : IntKind). code_lvalue a.lvalue d l ++ (code_value b.value (value_at (spot_of a.lvalue) d) (l + labels_lvalue a.lvalue)
    ++ changing (spot_of a.lvalue) (sorted (sort_of a.type)) a.place op k (step_in around.structs a.type) false d)) (kind_by b.type)

assigned_labels : (op : Option Arithmetic) (around : Around) (a b : Found) → is_copied (spot_of a.lvalue) (sorted (sort_of a.type)) ≡ false
    → labels_value (assigned_value op around a b) ≡ labels_lvalue a.lvalue + labels_given (assigned_sort op (sorted (sort_of a.type))) b.value
assigned_labels None around a b h = written_labels (sort_of a.type) a.lvalue a.place b.type b.value h
assigned_labels (Some op) around a b h = changed_labels (kind_of a.type) (sort_of a.type) a.lvalue a.place op (kind_of b.type) (step_in around.structs a.type) b.value false h

regroup : (A B Y E : List FatStep) → (A ++ (B ++ Y)) ++ E ≡ A ++ (B ++ (Y ++ E))
regroup A B Y E = simp append_assoc refl

pub assign_form : (op : Option Arithmetic) (w : Bool) (around : Around) (a b : Found) (q : Place) (r : Reached) (d : ℕ) (s : Put) → is_copied (spot_of a.lvalue) (sorted (sort_of a.type)) ≡ false
    → went w (assign_by op around a b q r) d s
    ≡ added (assigned_own op (seen_in around.structs a) (seen_in around.structs b) w d) (went_given (assigned_sort op (sorted (sort_of a.type))) b (value_at (spot_of a.lvalue) d) (went true a d s))
unfolding went went_given assigned_own
assign_form op w around a b q r d s h = let v = value_at (spot_of a.lvalue) d in let k = assigned_sort op (sorted (sort_of a.type)) in
    let Y = assigned_steps op (seen_in around.structs a) (seen_in around.structs b) d in
    let E = ending w (reads_number (spot_of a.lvalue) (sorted (sort_of a.type))) d in
    went_as w (assign_by op around a b q r) d (λ l. code_lvalue a.lvalue d l ++ (code_given k (kind_of b.type) b.value v (l + labels_lvalue a.lvalue) ++ (Y ++ E))) (labels_lvalue a.lvalue + labels_given k b.value) s
    (assigned_ended op w around a b q r d s.label
    ∙ ap (λ (n : Bool). code_value (assigned_value op around a b) d s.label ++ ending w n d) (assigned_number op around a b)
    ∙ ap (λ (c : List FatStep). c ++ E) (assigned_code op around a b d s.label h) ∙ regroup _ _ Y E)
    (assigned_ended_labels op w around a b q r ∙ assigned_labels op around a b h)
    ∙ pair (λ l. code_lvalue a.lvalue d l) (λ l. code_given k (kind_of b.type) b.value v l) (labels_lvalue a.lvalue) (labels_given k b.value) (Y ++ E) s

copied_code : (op : Option Arithmetic) (around : Around) (a b : Found) (d l : ℕ) → is_copied (spot_of a.lvalue) (sorted (sort_of a.type)) ≡ true → code_value (assigned_value op around a b) d l ≡ code_lvalue a.lvalue d l
copied_code None around a b d l h = written_copied (sort_of a.type) a.lvalue a.place (given a.type b.type b.value) d l h
copied_code (Some op) around a b d l h = changed_copied (kind_of a.type) (sort_of a.type) a.lvalue a.place op (kind_of b.type) (step_in around.structs a.type) (number_in b.value) false d l h

copied_labels : (op : Option Arithmetic) (around : Around) (a b : Found) → is_copied (spot_of a.lvalue) (sorted (sort_of a.type)) ≡ true → labels_value (assigned_value op around a b) ≡ labels_lvalue a.lvalue
copied_labels None around a b h = written_copied_labels (sort_of a.type) a.lvalue a.place (given a.type b.type b.value) h
copied_labels (Some op) around a b h = changed_copied_labels (kind_of a.type) (sort_of a.type) a.lvalue a.place op (kind_of b.type) (step_in around.structs a.type) (number_in b.value) false h

-- the value of what is copied is an address
whole_ending : (w : Bool) (t : Sorted) (x : Spot) (d : ℕ) → is_copied x t ≡ true → ending w (reads_number x t) d ≡ []
whole_ending w t (sp.Number y) d h = absurd (true≢false (sym h))
whole_ending w t (sp.Pointer y) d h = absurd (true≢false (sym h))
whole_ending w (o.Number kind) sp.Memory d h = absurd (true≢false (sym h))
whole_ending w o.Pointer sp.Memory d h = absurd (true≢false (sym h))
whole_ending true o.Whole sp.Memory d h = refl
whole_ending false o.Whole sp.Memory d h = refl
whole_ending true o.Nothing sp.Memory d h = refl
whole_ending false o.Nothing sp.Memory d h = refl

pub copy_form : (op : Option Arithmetic) (w : Bool) (around : Around) (a b : Found) (q : Place) (r : Reached) (d : ℕ) (s : Put) → is_copied (spot_of a.lvalue) (sorted (sort_of a.type)) ≡ true
    → went w (assign_by op around a b q r) d s ≡ went true a d s
unfolding went
copy_form op w around a b q r d s h =
    went_as w (assign_by op around a b q r) d (λ l. code_lvalue a.lvalue d l) (labels_lvalue a.lvalue) s
    (assigned_ended op w around a b q r d s.label
    ∙ ap (λ (n : Bool). code_value (assigned_value op around a b) d s.label ++ ending w n d) (assigned_number op around a b)
    ∙ ap (λ (c : List FatStep). c ++ ending w (reads_number (spot_of a.lvalue) (sorted (sort_of a.type))) d) (copied_code op around a b d s.label h)
    ∙ ap (λ (c : List FatStep). code_lvalue a.lvalue d s.label ++ c) (whole_ending w (sorted (sort_of a.type)) (spot_of a.lvalue) d h) ∙ append-nil (code_lvalue a.lvalue d s.label))
    (assigned_ended_labels op w around a b q r ∙ copied_labels op around a b h)

-- ---- `++` and `--`

step_code : (kind : IntKind) (k : Sort) (lv : Lvalue) (q : Place) (op : Arithmetic) (size : ℕ) (old : Bool) (d l : ℕ) → kind ≡ kind_in (sorted k)
    → code_value (changed_as kind k q lv op I32 size (Word 1) old) d l ≡ code_lvalue lv d l ++ (one_for (spot_of lv) (sorted k) d ++ changing (spot_of lv) (sorted k) q op I32 size old d)
step_code kind k (NumberVariable y) q op size old d l g = changed_code kind k (NumberVariable y) q op I32 size (Numeric (Word 1)) old d l refl g
step_code kind k (PointerVariable y) q op size old d l g = changed_code kind k (PointerVariable y) q op I32 size (Numeric (Word 1)) old d l refl g
step_code kind (ANumber n) (InMemory p) q op size old d l g = changed_code kind (ANumber n) (InMemory p) q op I32 size (Numeric (Word 1)) old d l refl g
step_code kind APointer (InMemory p) q op size old d l g = changed_code kind APointer (InMemory p) q op I32 size (Numeric (Word 1)) old d l refl g
step_code kind AWhole (InMemory p) q op size old d l g = sym (append-nil (code_ptr p d l))
step_code kind NoValue (InMemory p) q op size old d l g = sym (append-nil (code_ptr p d l))

step_labels : (kind : IntKind) (k : Sort) (lv : Lvalue) (q : Place) (op : Arithmetic) (size : ℕ) (old : Bool) → labels_value (changed_as kind k q lv op I32 size (Word 1) old) ≡ labels_lvalue lv
step_labels kind k (NumberVariable y) q op size old = changed_labels kind k (NumberVariable y) q op I32 size (Numeric (Word 1)) old refl ∙ zero_on 0
step_labels kind k (PointerVariable y) q op size old = refl
step_labels kind (ANumber n) (InMemory p) q op size old = changed_labels kind (ANumber n) (InMemory p) q op I32 size (Numeric (Word 1)) old refl ∙ zero_on (labels_ptr p)
step_labels kind APointer (InMemory p) q op size old = zero_on (labels_ptr p)
step_labels kind AWhole (InMemory p) q op size old = refl
step_labels kind NoValue (InMemory p) q op size old = refl

pub step_form : (w : Bool) (around : Around) (up before : Bool) (a : Found) (q : Place) (r : Reached) (d : ℕ) (s : Put)
    → went w (stepped_by around up before a q r) d s ≡ added (stepped_own up before (seen_in around.structs a) w d) (went true a d s)
unfolding went stepped_own
step_form w around up before a q r d s = let op = step_operator up in let size = step_in around.structs a.type in
    let V = changed_as (kind_of a.type) (sort_of a.type) a.place a.lvalue op I32 size (Word 1) (not before) in
    let O = one_for (spot_of a.lvalue) (sorted (sort_of a.type)) d in
    let C = changing (spot_of a.lvalue) (sorted (sort_of a.type)) a.place op I32 size (not before) d in
    let E = ending w (reads_number (spot_of a.lvalue) (sorted (sort_of a.type))) d in
    went_as w (stepped_by around up before a q r) d (λ l. code_lvalue a.lvalue d l ++ (O ++ (C ++ E))) (labels_lvalue a.lvalue) s
    (ended w a.type V q r d s.label
    ∙ ap (λ (n : Bool). code_value V d s.label ++ ending w n d) (changed_number (kind_of a.type) (sort_of a.type) a.lvalue a.place op I32 size (Word 1) (not before))
    ∙ ap (λ (c : List FatStep). c ++ E) (step_code (kind_of a.type) (sort_of a.type) a.lvalue a.place op size (not before) d s.label (kind_by a.type)) ∙ regroup _ O C E)
    (ended_labels w a.type V q r ∙ step_labels (kind_of a.type) (sort_of a.type) a.lvalue a.place op size (not before))
    ∙ one (λ l. code_lvalue a.lvalue d l) (labels_lvalue a.lvalue) (O ++ (C ++ E)) s

-- ---- elements

under_code : (rule : Rule) (q : PointerExpr) (d l : ℕ) → code_ptr (under_rule rule q) d l ≡ code_ptr q d l ++ part_ruled rule d
under_code Keep q d l = sym (append-nil (code_ptr q d l))
under_code (Meet offset size) q d l = refl

under_labels : (rule : Rule) (q : PointerExpr) → labels_ptr (under_rule rule q) ≡ labels_ptr q
under_labels Keep q = refl
under_labels (Meet offset size) q = refl

element_code : (size : ℕ) (x y : Value) (d l : ℕ) → code_ptr (element_at false size (pointer_in x) (number_in y)) d l
    ≡ code_value x d l ++ (addressing (is_number x) d ++ (code_value y (d + 2) (l + labels_value x) ++ (scaled size (d + 2) (d + 4) ++ (s.Arith d Add U64 d (d + 2) ∷ []))))
element_code size x y d l = let Z = scaled size (d + 2) (d + 4) ++ (s.Arith d Add U64 d (d + 2) ∷ []) in
    ap (λ (c : List FatStep). c ++ (code (number_in y) (d + 2) (l + labels_ptr (pointer_in x)) ++ Z)) (address_code x d l)
    ∙ append_assoc (code_value x d l) (addressing (is_number x) d) _
    ∙ ap (λ (c : List FatStep). code_value x d l ++ (addressing (is_number x) d ++ (c ++ Z))) (number_code y (d + 2) (l + labels_ptr (pointer_in x)) ∙ ap (λ (m : ℕ). code_value y (d + 2) (l + m)) (address_labels x))

regroup2 : (A X B Z P U : List FatStep) → ((A ++ (X ++ (B ++ Z))) ++ P) ++ U ≡ A ++ (X ++ (B ++ (Z ++ (P ++ U))))
regroup2 A X B Z P U = simp append_assoc refl

plus_both : (a b c d : ℕ) → a ≡ b → c ≡ d → a + c ≡ b + d
plus_both a b c d h g = ap (λ (z : ℕ). z + c) h ∙ ap (λ (z : ℕ). b + z) g

pub index_form : (w : Bool) (around : Around) (t : CType) (a i : Found) (p : Place) (r : Reached) (d : ℕ) (st : Put)
    → went w (a_place t (index around t a i) p r) d st
    ≡ added (element_own (index_rule around t a) (facts_of around.structs t) w p d) (went false i (d + 2) (added (addressing (is_number a.value) d) (went false a d st)))
unfolding went element_own
index_form w around t a i p r d st = let rule = index_rule around t a in let size = size_in around.structs t in
    let q = element_at false size (pointer_in a.value) (number_in i.value) in
    let X = addressing (is_number a.value) d in
    let Z = scaled size (d + 2) (d + 4) ++ (s.Arith d Add U64 d (d + 2) ∷ []) in
    let P = part_ruled rule d in
    let U = read_unless w sp.Memory (sorted (sort_of t)) p d in
    went_as w (a_place t (index around t a i) p r) d (λ l. code_value a.value d l ++ (X ++ (code_value i.value (d + 2) (l + labels_value a.value) ++ (Z ++ (P ++ U))))) (labels_value a.value + labels_value i.value) st
    (read w t (index around t a i) p r d st.label
    ∙ ap (λ (c : List FatStep). c ++ U) (under_code rule q d st.label ∙ ap (λ (c : List FatStep). c ++ P) (element_code size a.value i.value d st.label)) ∙ regroup2 _ X _ Z P U)
    (read_labels w t (index around t a i) p r ∙ under_labels rule q ∙ plus_both _ _ _ _ (address_labels a.value) (number_labels i.value))
    ∙ two (λ l. code_value a.value d l) (λ l. code_value i.value (d + 2) l) (labels_value a.value) (labels_value i.value) X (Z ++ (P ++ U)) st

-- ---- members

regroup_member : (A X M U : List FatStep) → ((A ++ X) ++ M) ++ U ≡ A ++ (X ++ (M ++ U))
regroup_member A X M U = simp append_assoc refl

named_form : (w : Bool) (around : Around) (struct : ℕ) (t : CType) (a : Found) (name : List ℕ) (p : Place) (r : Reached) (d : ℕ) (s : Put) → let n = index_of around struct name in let offset = offset_in around.structs struct n in
    went w (a_place t (InMemory (member_named around struct t name (pointer_in a.value))) p r) d s
    ≡ added (member_own (is_number a.value) offset (member_rule around.flags (n == 0) (trails around struct n (is_array t)) offset (size_in around.structs t)) (sorted (sort_of t)) w p d) (went false a d s)
unfolding went member_own
named_form w around struct t a name p r d s = let n = index_of around struct name in let offset = offset_in around.structs struct n in
    let rule = member_rule around.flags (n == 0) (trails around struct n (is_array t)) offset (size_in around.structs t) in
    let q = member_named around struct t name (pointer_in a.value) in
    let X = addressing (is_number a.value) d in
    let M = ruled rule d ++ offset_by offset d d (d + 2) in
    let U = read_unless w sp.Memory (sorted (sort_of t)) p d in
    went_as w (a_place t (InMemory (member_named around struct t name (pointer_in a.value))) p r) d (λ l. code_value a.value d l ++ (X ++ (M ++ U))) (labels_value a.value) s
    (read w t (InMemory q) p r d s.label ∙ ap (λ (c : List FatStep). (c ++ M) ++ U) (address_code a.value d s.label) ∙ regroup_member _ X M U)
    (read_labels w t (InMemory q) p r ∙ address_labels a.value)
    ∙ one (λ l. code_value a.value d l) (labels_value a.value) (X ++ (M ++ U)) s

pub member_form : (w : Bool) (around : Around) (t : CType) (a : Found) (name : List ℕ) (p : Place) (r : Reached) (d : ℕ) (s : Put) → let n = index_of around (struct_of a.type) name in let offset = offset_in around.structs (struct_of a.type) n in
    went w (a_place t (member around t a name) p r) d s
    ≡ added (member_own (is_number a.value) offset (member_rule around.flags (n == 0) (trails around (struct_of a.type) n (is_array t)) offset (size_in around.structs t)) (sorted (sort_of t)) w p d) (went false a d s)
member_form w around t a name p r d s = named_form w around (struct_of a.type) t a name p r d s

pub arrow_form : (w : Bool) (around : Around) (t : CType) (a : Found) (name : List ℕ) (p : Place) (r : Reached) (d : ℕ) (s : Put) → let struct = struct_of (target_of a.type) in
    let n = index_of around struct name in let offset = offset_in around.structs struct n in
    went w (a_place t (arrow around t a name) p r) d s
    ≡ added (member_own (is_number a.value) offset (member_rule around.flags (n == 0) (trails around struct n (is_array t)) offset (size_in around.structs t)) (sorted (sort_of t)) w p d) (went false a d s)
arrow_form w around t a name p r d s = named_form w around (struct_of (target_of a.type)) t a name p r d s
