-- The whole of a form, from what was put down one after another.
use Rattle.std.proofs.Common.{◌≡◌, ℕ, ◌+◌, ◌==◌, ◌&&◌, Bool, true, false, Option, Some, List, [], ◌∷◌, length, map, refl, sym, ap, ◌∙◌, Result, Ok, Err}
use Rattle.std.specs.Prelude.{OnOk}
use Rattle.mx_base.specs.declared.numbers.IntKind.{IntKind}
use Rattle.mx_base.specs.declared.places.Place.{Place}
use Rattle.mx_base.specs.declared.settings.Flags.{Flags}
use Rattle.mx_base.specs.declared.operators.Arithmetic.{Arithmetic}
use Rattle.narrowing.specs.declared.member.Rule.{Rule}
use Rattle.narrowing.specs.Element.{element_rule}
use Rattle.narrowing.specs.Member.{member_rule}
use Rattle.c_tree.specs.declared.tree.Base.{Base}
use Rattle.c_tree.specs.declared.tree.Expr.{Expr}
use Rattle.c_tree.specs.declared.tree.ExprKind.TheVariants as v
use Rattle.c_check_rules.specs.declared.predeclared.Bind.{Bind}
use Rattle.fat_ir.specs.declared.step.FatStep.TheVariants as s
use Rattle.bounds_plan.specs.elaboration.Types.{sort_of, size_in}
use Rattle.bounds_plan.specs.elaboration.Places.{offset_in}
use Rattle.bounds_plan.specs.elaboration.Source.{Reached, Around, kind_at, bind_at, literal_at, past_kind, past_name}
use Rattle.bounds_plan.specs.elaboration.Expressions.{Found, no_place, chosen_as, find_all, called, starred, based, without_literals, expression, binary}
use Rattle.steps_facts.specs.declared.seen.Sorted.{Sorted}
use Rattle.steps_facts.specs.declared.seen.Sorted.TheVariants as o
use Rattle.steps_facts.specs.declared.seen.Facts.{Facts}
use Rattle.steps_facts.specs.Seen.{SeenOf, sorted, facts_of, is_number, seen_in}
use Rattle.steps_facts.specs.Around.{index_of, trails, OffsetIs, RuleIs}
use Rattle.c_tree.specs.declared.operators.UnaryOp.{UnaryOp}
use Rattle.c_tree.specs.declared.operators.UnaryOp.TheVariants as u
use Rattle.c_tree.specs.declared.operators.BinaryOp.{BinaryOp}
use Rattle.steps_pieces.specs.Operators.{takes_place, joint_labels, second_at}
use Rattle.steps_pieces.specs.Wanted.{addressing, null_at}
use Rattle.steps_pieces.specs.Own.{word_own, text_own, name_own, single_own, cast_own, joint_between, joint_behind, choice_of, crossing, choice_end, is_copied, value_at, assigned_sort, assigned_own, stepped_own, element_own, member_own, converting, takes, call_labels, call_own}
use Rattle.steps_pieces.specs.Put.{Put, added, skipped, went, went_given, went_all}
use Rattle.c_look.specs.Looks.{facts_at, single_seen, part_seen, cast_seen}
use Rattle.c_look.proofs.Expressions.{is_number as is_word, is_text, is_name, is_unary, is_binary, is_assign, is_step, is_cond, is_call, is_index, is_member, is_arrow, is_cast, is_size, is_sizeof}
use Rattle.c_emit.specs.Argued.{places_of}
use Rattle.c_emit.proofs.Forms.{word_form, text_form, name_form, single_form, cast_form, joint_form, choice_form, given_number_form, given_null_form, given_pointer_form, given_whole_form, given_nothing_form}
use Rattle.c_emit.proofs.Places.{assign_form, copy_form, step_form, index_form, member_form, arrow_form}
use Rattle.c_emit.proofs.Calls.{call_form}

-- what an expression is elaborated to stands for it
for_it : (w : Bool) (e : Expr) (around : Around) (r : Reached) (f : Found) (d : ℕ) (t0 t : Put) → expression e around r ≡ f → t ≡ went w f d t0 → t ≡ went w (expression e around r) d t0
for_it w e around r f d t0 t same h = h ∙ ap (λ (z : Found). went w z d t0) (sym same)

pub word_walk : (e : Expr) (n : ℕ) (k : IntKind) (around : Around) (r : Reached) (w : Bool) (d : ℕ) (t0 t1 : Put) → e.kind ≡ v.Number n k → t1 ≡ added (word_own n w d) t0 → t1 ≡ went w (expression e around r) d t0
word_walk e n k around r w d t0 t1 is h = for_it w e around r _ d t0 t1 (is_word e n k around r is) (h ∙ sym (word_form w n (kind_at around r) e.place (past_kind r) d t0))

pub text_walk : (e : Expr) (bytes text : List ℕ) (around : Around) (r : Reached) (w : Bool) (d symbol offset size : ℕ) (t0 t1 : Put) → e.kind ≡ v.Text bytes → text ≡ bytes → size ≡ length text + 1 → symbol ≡ around.layout.texts → offset ≡ literal_at around r
    → t1 ≡ added (text_own symbol offset size d) t0 → t1 ≡ went w (expression e around r) d t0
text_walk e bytes text around r w d symbol offset size t0 t1 is hb hz hs ho h = for_it w e around r _ d t0 t1 (is_text e bytes around r is)
    (h ∙ ap (λ (z : ℕ). added (text_own z offset size d) t0) hs ∙ ap (λ (z : ℕ). added (text_own around.layout.texts z size d) t0) ho
    ∙ ap (λ (z : ℕ). added (text_own around.layout.texts (literal_at around r) z d) t0) (hz ∙ ap (λ (z : List ℕ). length z + 1) hb) ∙ sym (text_form w around (kind_at around r) e.place bytes r d t0))

pub name_walk : (e : Expr) (name : List ℕ) (around : Around) (r : Reached) (w : Bool) (d : ℕ) (facts : Facts) (bind : Bind) (t0 t1 : Put) → e.kind ≡ v.Var name → facts ≡ facts_of around.structs (kind_at around r) → bind ≡ bind_at around r
    → t1 ≡ added (name_own around bind facts w e.place d) t0 → t1 ≡ went w (expression e around r) d t0
name_walk e name around r w d facts bind t0 t1 is hf hb h = for_it w e around r _ d t0 t1 (is_name e name around r is)
    (h ∙ ap (λ (z : Bind). added (name_own around z facts w e.place d) t0) hb ∙ ap (λ (z : Facts). added (name_own around (bind_at around r) z w e.place d) t0) hf
    ∙ sym (name_form w around (kind_at around r) (bind_at around r) e.place (past_name (past_kind r)) d t0))

single_sort : (op : UnaryOp) (around : Around) (p : Place) (r : Reached) → (single_seen op around p r).facts.sort ≡ (facts_at around r).sort
single_sort u.Neg around p r = refl
single_sort u.BitNot around p r = refl
single_sort u.Not around p r = refl
single_sort u.Deref around p r = refl
single_sort u.AddressOf around p r = refl

pub single_walk : (e : Expr) (op : UnaryOp) (a : Expr) (around : Around) (r : Reached) (w place : Bool) (d : ℕ) (x own : SeenOf) (t0 t1 t2 : Put) → e.kind ≡ v.Unary op a → place ≡ takes_place op
    → x ≡ seen_in around.structs (expression a around r) → own ≡ single_seen op around e.place x.after → t1 ≡ went place (expression a around r) d t0 → t2 ≡ added (single_own op x own.facts.sort w e.place d) t1
    → t2 ≡ went w (expression e around r) d t0
single_walk e op a around r w place d x own t0 t1 t2 is hp hx hn h1 h2 = let f = expression a around r in
    let G : SeenOf → Sorted → Put = λ y k. added (single_own op y k w e.place d) (went (takes_place op) f d t0) in
    for_it w e around r _ d t0 t2 (is_unary e op a around r is)
    (h2 ∙ ap (λ (z : Put). added (single_own op x own.facts.sort w e.place d) z) (h1 ∙ ap (λ (z : Bool). went z f d t0) hp)
    ∙ ap (λ (k : Sorted). G x k) (ap (λ (z : SeenOf). z.facts.sort) hn ∙ single_sort op around e.place x.after)
    ∙ ap (λ (z : SeenOf). G z (facts_at around z.after).sort) hx
    ∙ sym (single_form around.structs op w (kind_at around f.after) f e.place (past_kind f.after) d t0))

pub binary_walk : (e : Expr) (op : BinaryOp) (a b : Expr) (around : Around) (r : Reached) (w : Bool) (d d2 k first : ℕ) (x y own : SeenOf) (t0 t1 t2 t3 t4 t5 : Put) → e.kind ≡ v.Binary op a b
    → k ≡ joint_labels op → d2 ≡ second_at op d → first ≡ t0.label
    → x ≡ seen_in around.structs (expression a around r) → y ≡ seen_in around.structs (expression b around x.after) → own ≡ seen_in around.structs (expression e around r)
    → t1 ≡ skipped k t0 → t2 ≡ went false (expression a around r) d t1 → t3 ≡ added (joint_between op x y first d) t2 → t4 ≡ went false (expression b around x.after) d2 t3 → t5 ≡ added (joint_behind op x y first w own.number d) t4
    → t5 ≡ went w (expression e around r) d t0
binary_walk e op a b around r w d d2 k first x y own t0 t1 t2 t3 t4 t5 is hk hd hl hx hy hn h1 h2 h3 h4 h5 = let f = expression a around r in let g = expression b around f.after in
    let same = is_binary e op a b around r is in
    let num : own.number ≡ is_number (binary op around f g) = ap (λ (z : SeenOf). z.number) hn ∙ ap (λ (z : Found). is_number z.value) same in
    let G : SeenOf → SeenOf → Bool → ℕ → ℕ → Put = λ z y n k d2. added (joint_behind op z y first w n d) (went false (expression b around z.after) d2 (added (joint_between op z y first d) (went false f d (skipped k t0)))) in
    for_it w e around r _ d t0 t5 same
    (h5 ∙ ap (λ (z : Put). added (joint_behind op x y first w own.number d) z) (h4 ∙ ap (λ (z : Put). went false (expression b around x.after) d2 z)
    (h3 ∙ ap (λ (z : Put). added (joint_between op x y first d) z) (h2 ∙ ap (λ (z : Put). went false f d z) h1)))
    ∙ ap (λ (n : Bool). G x y n k d2) num
    ∙ ap (λ (m : ℕ). G x y (is_number (binary op around f g)) m d2) hk
    ∙ ap (λ (m : ℕ). G x y (is_number (binary op around f g)) (joint_labels op) m) hd
    ∙ ap (λ (z : SeenOf). G x z (is_number (binary op around f g)) (joint_labels op) (second_at op d)) hy
    ∙ ap (λ (z : SeenOf). G z (seen_in around.structs (expression b around z.after)) (is_number (binary op around f g)) (joint_labels op) (second_at op d)) hx
    ∙ ap (λ (m : ℕ). added (joint_behind op (seen_in around.structs f) (seen_in around.structs g) m w (is_number (binary op around f g)) d)
    (went false g (second_at op d) (added (joint_between op (seen_in around.structs f) (seen_in around.structs g) m d) (went false f d (skipped (joint_labels op) t0))))) hl
    ∙ sym (joint_form op around w (kind_at around g.after) f g e.place (past_kind g.after) d t0))

pub assign_walk : (e : Expr) (op : Option Arithmetic) (a b : Expr) (around : Around) (r : Reached) (w : Bool) (d d2 : ℕ) (to : Sorted) (x y : SeenOf) (t0 t1 t2 t3 : Put) → e.kind ≡ v.Assign op a b
    → x ≡ seen_in around.structs (expression a around r) → y ≡ seen_in around.structs (expression b around x.after) → is_copied x.spot x.facts.sort ≡ false
    → to ≡ assigned_sort op x.facts.sort → d2 ≡ value_at x.spot d
    → t1 ≡ went true (expression a around r) d t0 → t2 ≡ went_given to (expression b around x.after) d2 t1 → t3 ≡ added (assigned_own op x y w d) t2 → t3 ≡ went w (expression e around r) d t0
assign_walk e op a b around r w d d2 to x y t0 t1 t2 t3 is hx hy hc ht hd h1 h2 h3 = let f = expression a around r in let g = expression b around f.after in
    let G : SeenOf → SeenOf → Sorted → ℕ → Put = λ z y k m. added (assigned_own op z y w d) (went_given k (expression b around z.after) m (went true f d t0)) in
    for_it w e around r _ d t0 t3 (is_assign e op a b around r is)
    (h3 ∙ ap (λ (z : Put). added (assigned_own op x y w d) z) (h2 ∙ ap (λ (z : Put). went_given to (expression b around x.after) d2 z) h1)
    ∙ ap (λ (k : Sorted). G x y k d2) ht ∙ ap (λ (m : ℕ). G x y (assigned_sort op x.facts.sort) m) hd
    ∙ ap (λ (z : SeenOf). G x z (assigned_sort op x.facts.sort) (value_at x.spot d)) hy
    ∙ ap (λ (z : SeenOf). G z (seen_in around.structs (expression b around z.after)) (assigned_sort op z.facts.sort) (value_at z.spot d)) hx
    ∙ sym (assign_form op w around f g e.place (past_kind g.after) d t0 (ap (λ (z : SeenOf). is_copied z.spot z.facts.sort) (sym hx) ∙ hc)))

pub copy_walk : (e : Expr) (op : Option Arithmetic) (a b : Expr) (around : Around) (r : Reached) (w : Bool) (d : ℕ) (x : SeenOf) (t0 t1 : Put) → e.kind ≡ v.Assign op a b → x ≡ seen_in around.structs (expression a around r) → is_copied x.spot x.facts.sort ≡ true
    → t1 ≡ went true (expression a around r) d t0 → t1 ≡ went w (expression e around r) d t0
copy_walk e op a b around r w d x t0 t1 is hx hc h = let f = expression a around r in let g = expression b around f.after in
    for_it w e around r _ d t0 t1 (is_assign e op a b around r is) (h ∙ sym (copy_form op w around f g e.place (past_kind g.after) d t0 (ap (λ (z : SeenOf). is_copied z.spot z.facts.sort) (sym hx) ∙ hc)))

pub step_walk : (e : Expr) (up before : Bool) (a : Expr) (around : Around) (r : Reached) (w : Bool) (d : ℕ) (x : SeenOf) (t0 t1 t2 : Put) → e.kind ≡ v.StepBy up before a → x ≡ seen_in around.structs (expression a around r)
    → t1 ≡ went true (expression a around r) d t0 → t2 ≡ added (stepped_own up before x w d) t1 → t2 ≡ went w (expression e around r) d t0
step_walk e up before a around r w d x t0 t1 t2 is hx h1 h2 = let f = expression a around r in
    for_it w e around r _ d t0 t2 (is_step e up before a around r is)
    (h2 ∙ ap (λ (z : Put). added (stepped_own up before x w d) z) h1 ∙ ap (λ (z : SeenOf). added (stepped_own up before z w d) (went true f d t0)) hx ∙ sym (step_form w around up before f e.place (past_kind f.after) d t0))

pub choice_walk : (e c a b : Expr) (around : Around) (r : Reached) (w : Bool) (d first : ℕ) (to : Sorted) (x y own : SeenOf) (t0 t1 t2 t3 t4 t5 t6 t7 : Put) → e.kind ≡ v.Cond c a b
    → x ≡ seen_in around.structs (expression c around r) → y ≡ seen_in around.structs (expression a around x.after) → own ≡ seen_in around.structs (expression e around r) → to ≡ choice_of own.facts.sort → first ≡ t0.label
    → t1 ≡ skipped 2 t0 → t2 ≡ went false (expression c around r) d t1 → t3 ≡ added (s.JumpIf d first ∷ []) t2 → t4 ≡ went_given to (expression b around y.after) d t3 → t5 ≡ added (crossing first (first + 1)) t4
    → t6 ≡ went_given to (expression a around x.after) d t5 → t7 ≡ added (choice_end (first + 1) w own.number d) t6 → t7 ≡ went w (expression e around r) d t0
choice_walk e c a b around r w d first to x y own t0 t1 t2 t3 t4 t5 t6 t7 is hx hy hn ht hl h1 h2 h3 h4 h5 h6 h7 =
    let fc = expression c around r in let fa = expression a around fc.after in let fb = expression b around fa.after in
    let t = kind_at around fb.after in
    let same : expression e around r ≡ no_place t (chosen_as (sort_of t) fc fa fb) e.place (past_kind fb.after) = is_cond e c a b around r is in
    let num : own.number ≡ is_number (chosen_as (sort_of t) fc fa fb) = ap (λ (z : SeenOf). z.number) hn ∙ ap (λ (z : Found). is_number z.value) same in
    let k : to ≡ choice_of (sorted (sort_of t)) = ht ∙ ap (λ (z : SeenOf). choice_of z.facts.sort) hn ∙ ap (λ (z : Found). choice_of (sorted (sort_of z.type))) same in
    let K = choice_of (sorted (sort_of t)) in
    let N = is_number (chosen_as (sort_of t) fc fa fb) in
    let G : Sorted → SeenOf → SeenOf → Bool → ℕ → Put = λ k x y n l. added (choice_end (l + 1) w n d) (went_given k (expression a around x.after) d (added (crossing l (l + 1)) (went_given k (expression b around y.after) d (added (s.JumpIf d l ∷ []) (went false fc d (skipped 2 t0)))))) in
    for_it w e around r _ d t0 t7 same
    (h7 ∙ ap (λ (z : Put). added (choice_end (first + 1) w own.number d) z) (h6 ∙ ap (λ (z : Put). went_given to (expression a around x.after) d z) (h5 ∙ ap (λ (z : Put). added (crossing first (first + 1)) z)
    (h4 ∙ ap (λ (z : Put). went_given to (expression b around y.after) d z) (h3 ∙ ap (λ (z : Put). added (s.JumpIf d first ∷ []) z) (h2 ∙ ap (λ (z : Put). went false fc d z) h1)))))
    ∙ ap (λ (z : Sorted). G z x y own.number first) k ∙ ap (λ (n : Bool). G K x y n first) num ∙ ap (λ (l : ℕ). G K x y N l) hl
    ∙ ap (λ (z : SeenOf). G K x z N t0.label) hy ∙ ap (λ (z : SeenOf). G K z (seen_in around.structs (expression a around z.after)) N t0.label) hx
    ∙ sym (choice_form w t fc fa fb e.place (past_kind fb.after) d t0))

pub call_walk : (e : Expr) (name : List ℕ) (es : List Expr) (around : Around) (r q : Reached) (w : Bool) (d k first : ℕ) (bind : Bind) (ts : List Sorted) (places : List (ℕ × Option ℕ)) (own : SeenOf) (t0 t1 t2 t3 : Put) → e.kind ≡ v.Call name es
    → q ≡ (find_all (map expression es) around r).after → bind ≡ bind_at around q → Some ts ≡ takes around bind → k ≡ call_labels bind → first ≡ t0.label → own ≡ seen_in around.structs (expression e around r)
    → t1 ≡ skipped k t0 → t2 ≡ went_all ts es around r d t1 → places ≡ places_of ts es around r d → t3 ≡ added (call_own around bind places own.facts.sort first w own.number d) t2 → t3 ≡ went w (expression e around r) d t0
call_walk e name es around r q w d k first bind ts places own t0 t1 t2 t3 is hq hb hs hk hl hn h1 h2 hp h3 =
    let xs = find_all (map expression es) around r in
    let t = kind_at around xs.after in
    let B = bind_at around xs.after in
    let b2 : bind ≡ B = hb ∙ ap (λ (z : Reached). bind_at around z) hq in
    let same : expression e around r ≡ no_place t (called around t B xs.all) e.place (past_name (past_kind xs.after)) = is_call e name es around r is in
    let own2 : own ≡ seen_in around.structs (no_place t (called around t B xs.all) e.place (past_name (past_kind xs.after))) = hn ∙ ap (λ (z : Found). seen_in around.structs z) same in
    let S = sorted (sort_of t) in
    let N = is_number (called around t B xs.all) in
    for_it w e around r _ d t0 t3 same
    (h3 ∙ ap (λ (z : Put). added (call_own around bind places own.facts.sort first w own.number d) z) (h2 ∙ ap (λ (z : Put). went_all ts es around r d z) h1)
    ∙ ap (λ (z : SeenOf). added (call_own around bind places z.facts.sort first w z.number d) (went_all ts es around r d (skipped k t0))) own2
    ∙ ap (λ (z : List (ℕ × Option ℕ)). added (call_own around bind z S first w N d) (went_all ts es around r d (skipped k t0))) hp
    ∙ ap (λ (l : ℕ). added (call_own around bind (places_of ts es around r d) S l w N d) (went_all ts es around r d (skipped k t0))) hl
    ∙ ap (λ (m : ℕ). added (call_own around bind (places_of ts es around r d) S t0.label w N d) (went_all ts es around r d (skipped m t0))) hk
    ∙ ap (λ (z : Bind). added (call_own around z (places_of ts es around r d) S t0.label w N d) (went_all ts es around r d (skipped (call_labels z) t0))) b2
    ∙ sym (call_form around w t B ts es r e.place (past_name (past_kind xs.after)) d t0 (hs ∙ ap (λ (z : Bind). takes around z) b2)))

pub index_walk : (e a i : Expr) (around : Around) (r : Reached) (w : Bool) (d : ℕ) (rule : Rule) (flags : Flags) (nested : Bool) (x y own : SeenOf) (t0 t1 t2 t3 t4 : Put) → e.kind ≡ v.Index a i
    → x ≡ seen_in around.structs (expression a around r) → y ≡ seen_in around.structs (expression i around x.after) → own ≡ part_seen around e.place y.after
    → rule ≡ element_rule flags nested 0 own.facts.size → flags ≡ around.flags → nested ≡ (x.facts.array && own.facts.array)
    → t1 ≡ went false (expression a around r) d t0 → t2 ≡ added (addressing x.number d) t1 → t3 ≡ went false (expression i around x.after) (d + 2) t2 → t4 ≡ added (element_own rule own.facts w e.place d) t3
    → t4 ≡ went w (expression e around r) d t0
index_walk e a i around r w d rule flags nested x y own t0 t1 t2 t3 t4 is hx hy hn hr hf ha h1 h2 h3 h4 = let f = expression a around r in let g = expression i around f.after in
    let R : SeenOf → Facts → Rule = λ x k. element_rule around.flags (x.facts.array && k.array) 0 k.size in
    let G : SeenOf → Facts → Put = λ x k. added (element_own (R x k) k w e.place d) (went false (expression i around x.after) (d + 2) (added (addressing x.number d) (went false f d t0))) in
    for_it w e around r _ d t0 t4 (is_index e a i around r is)
    (h4 ∙ ap (λ (z : Put). added (element_own rule own.facts w e.place d) z) (h3 ∙ ap (λ (z : Put). went false (expression i around x.after) (d + 2) z) (h2 ∙ ap (λ (z : Put). added (addressing x.number d) z) h1))
    ∙ ap (λ (z : Rule). added (element_own z own.facts w e.place d) (went false (expression i around x.after) (d + 2) (added (addressing x.number d) (went false f d t0)))) (hr ∙ ap (λ (z : Flags). element_rule z nested 0 own.facts.size) hf ∙ ap (λ (z : Bool). element_rule around.flags z 0 own.facts.size) ha)
    ∙ ap (λ (z : SeenOf). G x z.facts) hn ∙ ap (λ (z : SeenOf). G x (facts_at around z.after)) hy ∙ ap (λ (z : SeenOf). G z (facts_at around (expression i around z.after).after)) hx
    ∙ sym (index_form w around (kind_at around g.after) f g e.place (past_kind g.after) d t0))

pub member_walk : (e a : Expr) (name : List ℕ) (around : Around) (r : Reached) (w : Bool) (d offset : ℕ) (rule : Rule) (x own : SeenOf) (t0 t1 t2 : Put) → e.kind ≡ v.Member a name → x ≡ seen_in around.structs (expression a around r)
    → own ≡ part_seen around e.place x.after → OffsetIs around x.facts.owner name offset → RuleIs around x.facts.owner name own.facts.size own.facts.array rule
    → t1 ≡ went false (expression a around r) d t0 → t2 ≡ added (member_own x.number offset rule own.facts.sort w e.place d) t1 → t2 ≡ went w (expression e around r) d t0
member_walk e a name around r w d offset rule x own t0 t1 t2 is hx hn ho hr h1 h2 = let f = expression a around r in
    let I : ℕ → ℕ = λ n. index_of around n name in
    let O : ℕ → ℕ = λ n. offset_in around.structs n (I n) in
    let R : ℕ → Facts → Rule = λ n k. member_rule around.flags (I n == 0) (trails around n (I n) k.array) (O n) k.size in
    let G : SeenOf → Facts → Put = λ x k. added (member_own x.number (O x.facts.owner) (R x.facts.owner k) k.sort w e.place d) (went false f d t0) in
    for_it w e around r _ d t0 t2 (is_member e a name around r is)
    (h2 ∙ ap (λ (z : Put). added (member_own x.number offset rule own.facts.sort w e.place d) z) h1
    ∙ ap (λ (z : ℕ). added (member_own x.number z rule own.facts.sort w e.place d) (went false f d t0)) ho
    ∙ ap (λ (z : Rule). added (member_own x.number (O x.facts.owner) z own.facts.sort w e.place d) (went false f d t0)) hr
    ∙ ap (λ (z : SeenOf). G x z.facts) hn ∙ ap (λ (z : SeenOf). G z (facts_at around z.after)) hx
    ∙ sym (member_form w around (kind_at around f.after) f name e.place (past_kind f.after) d t0))

pub arrow_walk : (e a : Expr) (name : List ℕ) (around : Around) (r : Reached) (w : Bool) (d offset : ℕ) (rule : Rule) (x own : SeenOf) (t0 t1 t2 : Put) → e.kind ≡ v.Arrow a name → x ≡ seen_in around.structs (expression a around r)
    → own ≡ part_seen around e.place x.after → OffsetIs around x.facts.target name offset → RuleIs around x.facts.target name own.facts.size own.facts.array rule
    → t1 ≡ went false (expression a around r) d t0 → t2 ≡ added (member_own x.number offset rule own.facts.sort w e.place d) t1 → t2 ≡ went w (expression e around r) d t0
arrow_walk e a name around r w d offset rule x own t0 t1 t2 is hx hn ho hr h1 h2 = let f = expression a around r in
    let I : ℕ → ℕ = λ n. index_of around n name in
    let O : ℕ → ℕ = λ n. offset_in around.structs n (I n) in
    let R : ℕ → Facts → Rule = λ n k. member_rule around.flags (I n == 0) (trails around n (I n) k.array) (O n) k.size in
    let G : SeenOf → Facts → Put = λ x k. added (member_own x.number (O x.facts.target) (R x.facts.target k) k.sort w e.place d) (went false f d t0) in
    for_it w e around r _ d t0 t2 (is_arrow e a name around r is)
    (h2 ∙ ap (λ (z : Put). added (member_own x.number offset rule own.facts.sort w e.place d) z) h1
    ∙ ap (λ (z : ℕ). added (member_own x.number z rule own.facts.sort w e.place d) (went false f d t0)) ho
    ∙ ap (λ (z : Rule). added (member_own x.number (O x.facts.target) z own.facts.sort w e.place d) (went false f d t0)) hr
    ∙ ap (λ (z : SeenOf). G x z.facts) hn ∙ ap (λ (z : SeenOf). G z (facts_at around z.after)) hx
    ∙ sym (arrow_form w around (kind_at around f.after) f name e.place (past_kind f.after) d t0))

pub cast_walk : (e : Expr) (base : Base) (stars : ℕ) (a : Expr) (around : Around) (r : Reached) (w : Bool) (d : ℕ) (x own : SeenOf) (t0 t1 t2 : Put) → e.kind ≡ v.Cast base stars a → x ≡ seen_in around.structs (expression a around r)
    → own ≡ cast_seen around x e.place → t1 ≡ went false (expression a around r) d t0 → t2 ≡ added (cast_own x own.facts.sort w d) t1 → t2 ≡ went w (expression e around r) d t0
cast_walk e base stars a around r w d x own t0 t1 t2 is hx hn h1 h2 = let f = expression a around r in
    for_it w e around r _ d t0 t2 (is_cast e base stars a around r is)
    (h2 ∙ ap (λ (z : Put). added (cast_own x own.facts.sort w d) z) h1 ∙ ap (λ (z : SeenOf). added (cast_own x z.facts.sort w d) (went false f d t0)) hn
    ∙ ap (λ (z : SeenOf). added (cast_own z (facts_at around z.after).sort w d) (went false f d t0)) hx
    ∙ sym (cast_form around.structs w (kind_at around f.after) f e.place (past_kind f.after) d t0))

pub size_walk : (e : Expr) (base : Base) (stars : ℕ) (around : Around) (r : Reached) (w : Bool) (d size : ℕ) (t0 t1 : Put) → e.kind ≡ v.SizeOfKind base stars → size ≡ size_in around.structs (starred stars (based around base))
    → t1 ≡ added (word_own size w d) t0 → t1 ≡ went w (expression e around r) d t0
size_walk e base stars around r w d size t0 t1 is hs h = for_it w e around r _ d t0 t1 (is_size e base stars around r is)
    (h ∙ ap (λ (z : ℕ). added (word_own z w d) t0) hs ∙ sym (word_form w (size_in around.structs (starred stars (based around base))) (kind_at around r) e.place (past_kind r) d t0))

pub sizeof_walk : (e a : Expr) (around : Around) (r : Reached) (w : Bool) (d : ℕ) (x : SeenOf) (t0 t1 : Put) → e.kind ≡ v.SizeOfValue a → x ≡ seen_in around.structs (expression a around r)
    → t1 ≡ added (word_own x.facts.size w d) t0 → t1 ≡ went w (expression e around r) d t0
sizeof_walk e a around r w d x t0 t1 is hx h = let f = expression a around r in for_it w e around r _ d t0 t1 (is_sizeof e a around r is)
    (h ∙ ap (λ (z : SeenOf). added (word_own z.facts.size w d) t0) hx ∙ sym (word_form w (size_in around.structs f.type) (kind_at around f.after) e.place (past_kind (without_literals r f.after)) d t0))

-- ---- a value where one of a sort is wanted

pub given_number_walk : (around : Around) (f : Found) (to : Sorted) (kind : IntKind) (d : ℕ) (x : SeenOf) (t0 t1 t2 : Put) → to ≡ o.Number kind → x ≡ seen_in around.structs f → t1 ≡ went false f d t0 → t2 ≡ added (converting x kind d) t1
    → t2 ≡ went_given to f d t0
given_number_walk around f to kind d x t0 t1 t2 ht hx h1 h2 = h2 ∙ ap (λ (z : Put). added (converting x kind d) z) h1 ∙ ap (λ (z : SeenOf). added (converting z kind d) (went false f d t0)) hx
    ∙ sym (given_number_form around.structs kind f d t0) ∙ ap (λ (z : Sorted). went_given z f d t0) (sym ht)

pub given_null_walk : (around : Around) (f : Found) (to : Sorted) (d : ℕ) (x : SeenOf) (t0 t1 : Put) → to ≡ o.Pointer → x ≡ seen_in around.structs f → x.number ≡ true → t1 ≡ added (null_at d) t0 → t1 ≡ went_given to f d t0
given_null_walk around f to d x t0 t1 ht hx hn h = h ∙ sym (given_null_form f d t0 (ap (λ (z : SeenOf). z.number) (sym hx) ∙ hn)) ∙ ap (λ (z : Sorted). went_given z f d t0) (sym ht)

pub given_pointer_walk : (around : Around) (f : Found) (to : Sorted) (d : ℕ) (x : SeenOf) (t0 t1 : Put) → to ≡ o.Pointer → x ≡ seen_in around.structs f → x.number ≡ false → t1 ≡ went false f d t0 → t1 ≡ went_given to f d t0
given_pointer_walk around f to d x t0 t1 ht hx hn h = h ∙ sym (given_pointer_form f d t0 (ap (λ (z : SeenOf). z.number) (sym hx) ∙ hn)) ∙ ap (λ (z : Sorted). went_given z f d t0) (sym ht)

pub given_whole_walk : (f : Found) (to : Sorted) (d : ℕ) (t0 t1 : Put) → to ≡ o.Whole → t1 ≡ went false f d t0 → t1 ≡ went_given to f d t0
given_whole_walk f to d t0 t1 ht h = h ∙ sym (given_whole_form f d t0) ∙ ap (λ (z : Sorted). went_given z f d t0) (sym ht)

pub given_nothing_walk : (f : Found) (to : Sorted) (d : ℕ) (t0 t1 : Put) → to ≡ o.Nothing → t1 ≡ went false f d t0 → t1 ≡ went_given to f d t0
given_nothing_walk f to d t0 t1 ht h = h ∙ sym (given_nothing_form f d t0) ∙ ap (λ (z : Sorted). went_given z f d t0) (sym ht)

-- ---- results

pub on_ok : {T E : Type 0} (r : Result T E) (A B : Type 0) → (A → B) → OnOk r A → OnOk r B
on_ok (Ok x) A B f h = f h
on_ok (Err x) A B f h = tt
