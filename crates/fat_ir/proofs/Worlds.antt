-- What runs keep between the world before and the world after: turns, output, accesses, and the data stack pointer.
use Rattle.std.proofs.Common.{ℕ, zero, suc, ◌+◌, ◌-◌, nat_lt, ◌≡◌, ◌≤◌, refl, sym, ap, ◌∙◌, subst, Bool, true, false, cond, List, [], ◌∷◌, ◌++◌, append_assoc, Option, Some, None, arith}
use Rattle.std.proofs.lemmas.List.{append-nil}
use Rattle.mx_base.specs.Regions.{data_stack}
use Rattle.mx_base.specs.Heap.{freed, Heap}
use Rattle.mx_base.specs.Memory.{Bytes, with_number}
use Rattle.mx_base.proofs.MemoryLemmas.{with_number_below, with_number_above}
use Rattle.std.proofs.lemmas.Bool.Decides.{nat_tests}
use Rattle.mx_base.specs.Access.{Refusal, refusal}
use Rattle.mx_base.specs.declared.services.CService.{CService}
use Rattle.mx_base.specs.Services.{Guest, Service, Write, Exit, Alloc, Free, Print, Put, Get, StackOver, NoService, Served, Answers, served, c_service, gotten, free_answer}
use Rattle.mx_base.specs.World.{World, Access, read_noted, number_written}
use Rattle.fat_ir.specs.Values.{Value}
use Rattle.fat_ir.specs.Calls.{Outcome, Comes, Stops, Stuck, Callee, with_turns, turn_from, with_data_sp, entering, returning}
use Rattle.mx_base.specs.StopOfC.{StackOver as StackIsOver}
use Rattle.fat_ir.specs.Step.{served_in_c}
use Rattle.fat_ir.specs.Functions.{Linked, body_run, calls}
use Rattle.fat_ir.specs.Laws.{Leads, NoMoreTurns, OutputGrows, AccessesGrow, Traced, AccessesAllowed, Events, InPieces, PieceOfSteps, Joined, NoneRefused, NotWritten, SameFrame, SameLegacyStack, Anywhere}
use Rattle.fat_ir.proofs.Runs.{Keeps}

pub fewer : Keeps NoMoreTurns NoMoreTurns
fewer = record {
  same = λ w. omega arith;
  join = λ w u v h g. omega (arith, h, g);
  ends = λ w. omega arith;
  last = λ w u v h g. omega (arith, h, g);
  read = λ w n a e. omega arith;
  wrote = λ w n a v e. omega arith;
  stored = λ w s. omega arith;
  served = λ w service word answer g e. omega arith;
  turned = λ w n e. omega (arith, e);
}

-- ---- output

-- a list that begins with another
pub record Begins {A : Type 0} (before after : List A) : Type 0 where
  pub more : List A
  pub is : after ≡ before ++ more

pub begins-same : {A : Type 0} (xs : List A) → Begins xs xs
begins-same xs = record { more = []; is = sym (append-nil xs) }

pub begins-join : {A : Type 0} (xs ys zs : List A) → Begins xs ys → Begins ys zs → Begins xs zs
begins-join xs ys zs h g = record { more = h.more ++ g.more; is = g.is ∙ ap (λ us. us ++ g.more) h.is ∙ append_assoc xs h.more g.more }

pub begins-more : {A : Type 0} (xs ys : List A) → Begins xs (xs ++ ys)
begins-more xs ys = record { more = ys; is = refl }

abbrev AnsweredLonger : List ℕ → Served Refusal → Type 0
AnsweredLonger out (Answers x h) = Begins out h.out
AnsweredLonger out _ = Unit {0}

got : (g : Guest) (input : List ℕ) → AnsweredLonger g.out (gotten g input)
got g [] = begins-same g.out
got g (b ∷ rest) = begins-same g.out

gave_back : (g : Guest) (h : Option Heap) → AnsweredLonger g.out (free_answer g h)
gave_back g None = begins-same g.out
gave_back g (Some h) = begins-same g.out

either : (g : Guest) (b : Bool) (x y : ℕ) → AnsweredLonger g.out (cond b (Answers x g) (Answers y g))
either g true x y = begins-same g.out
either g false x y = begins-same g.out

services-put : (m : Bytes) (refused : ℕ → ℕ → Option Refusal) (service : Service) (word : ℕ) (g : Guest) → AnsweredLonger g.out (served m refused service word 0 0 g)
unfolding served
services-put m refused Write word g = either g _ _ _
services-put m refused Exit word g = tt
services-put m refused Alloc word g = begins-same g.out
services-put m refused Free word g = gave_back g (freed g.heap word)
services-put m refused Print word g = begins-more g.out _
services-put m refused Put word g = begins-more g.out _
services-put m refused Get word g = got g g.input
services-put m refused StackOver word g = tt
services-put m refused NoService word g = begins-same g.out

pub served-longer : (w : World) (service : CService) (word answer : ℕ) (g : Guest) → served_in_c service word w ≡ Answers answer g → Begins w.guest.out g.out
served-longer w service word answer g e = let P : Served Refusal → Type 0 = AnsweredLonger w.guest.out in subst P e (services-put w.bytes _ (c_service service) word w.guest)

output : (w u : World) → Begins w.guest.out u.guest.out → OutputGrows w u
output w u h = record { more = h.more; is = h.is }

of_output : (w u : World) → OutputGrows w u → Begins w.guest.out u.guest.out
of_output w u h = record { more = h.more; is = h.is }

output_join : (w u v : World) → OutputGrows w u → OutputGrows u v → OutputGrows w v
output_join w u v h g = output w v (begins-join w.guest.out u.guest.out v.guest.out (of_output w u h) (of_output u v g))

pub longer_output : Keeps OutputGrows OutputGrows
longer_output = record {
  same = λ w. output w w (begins-same w.guest.out);
  join = output_join;
  ends = λ w. output w w (begins-same w.guest.out);
  last = output_join;
  read = λ w n a e. output w _ (begins-same w.guest.out);
  wrote = λ w n a v e. output w _ (begins-same w.guest.out);
  stored = λ w s. output w _ (begins-same w.guest.out);
  served = λ w service word answer g e. output w _ (served-longer w service word answer g e);
  turned = λ w n e. output w _ (begins-same w.guest.out);
}

pub output_framed : (w : World) (sp : ℕ) → OutputGrows w (with_data_sp sp w)
output_framed w sp = output w _ (begins-same w.guest.out)

-- ---- accesses

accesses : (w u : World) → Begins w.accesses u.accesses → AccessesGrow w u
accesses w u h = record { more = h.more; is = h.is }

of_accesses : (w u : World) → AccessesGrow w u → Begins w.accesses u.accesses
of_accesses w u h = record { more = h.more; is = h.is }

accesses_join : (w u v : World) → AccessesGrow w u → AccessesGrow u v → AccessesGrow w v
accesses_join w u v h g = accesses w v (begins-join w.accesses u.accesses v.accesses (of_accesses w u h) (of_accesses u v g))

pub more_accesses : Keeps AccessesGrow AccessesGrow
more_accesses = record {
  same = λ w. accesses w w (begins-same w.accesses);
  join = accesses_join;
  ends = λ w. accesses w w (begins-same w.accesses);
  last = accesses_join;
  read = λ w n a e. accesses w _ (begins-more w.accesses _);
  wrote = λ w n a v e. accesses w _ (begins-more w.accesses _);
  stored = λ w s. accesses w _ (begins-same w.accesses);
  served = λ w service word answer g e. accesses w _ (begins-same w.accesses);
  turned = λ w n e. accesses w _ (begins-same w.accesses);
}

pub accesses_framed : (w : World) (sp : ℕ) → AccessesGrow w (with_data_sp sp w)
accesses_framed w sp = accesses w _ (begins-same w.accesses)

-- ---- accesses and the bytes that they wrote

pub none-refused : (xs ys : List Access) → NoneRefused xs → NoneRefused ys → NoneRefused (xs ++ ys)
none-refused [] ys h g = g
none-refused (x ∷ xs) ys h g = (h.0, none-refused xs ys h.1 g)

pub not-front : (x : ℕ) (xs ys : List Access) → NotWritten x (xs ++ ys) → NotWritten x xs
not-front x [] ys h = tt
not-front x (a ∷ xs) ys h = (h.0, not-front x xs ys h.1)

pub not-back : (x : ℕ) (xs ys : List Access) → NotWritten x (xs ++ ys) → NotWritten x ys
not-back x [] ys h = h
not-back x (a ∷ xs) ys h = not-back x xs ys h.1

no_access : (w u : World) → u.accesses ≡ w.accesses → u.bytes ≡ w.bytes → Traced w u
no_access w u e b = record { more = []; is = e ∙ sym (append-nil w.accesses); allowed = tt; others = λ x none i. b i x }

traced_join : (w u v : World) → Traced w u → Traced u v → Traced w v
traced_join w u v h g = record {
  more = h.more ++ g.more;
  is = g.is ∙ ap (λ us. us ++ g.more) h.is ∙ append_assoc w.accesses h.more g.more;
  allowed = none-refused h.more g.more h.allowed g.allowed;
  others = λ x none. g.others x (not-back x h.more g.more none) ∙ h.others x (not-front x h.more g.more none);
}

read_traced : (w : World) (n a : ℕ) → refusal false n a ≡ None → Traced w (read_noted n w a)
read_traced w n a e = record { more = record { write = false; at = a; size = n } ∷ []; is = refl; allowed = (e, tt); others = λ x none. refl }

pub elsewhere : (n a v x : ℕ) (m : Bytes) → (a ≤ x → a + n ≤ x) → with_number n m a v x ≡ m x
elsewhere n a v x m behind = elim (nat_lt x a) as (λ b. nat_lt x a ≡ b → with_number n m a v x ≡ m x) [
  | true ↦ λ e. with_number_below n m a v x (grind (arith, nat_tests))
  | false ↦ λ e. with_number_above n m a v x (behind (grind (arith, nat_tests)))
] refl

write_traced : (w : World) (n a v : ℕ) → refusal true n a ≡ None → Traced w (number_written n w a v)
write_traced w n a v e = record { more = record { write = true; at = a; size = n } ∷ []; is = refl; allowed = (e, tt); others = λ x none. elsewhere n a v x w.bytes (none.0 refl) }

pub all_traced : Keeps Traced Traced
all_traced = record {
  same = λ w. no_access w w refl refl;
  join = traced_join;
  ends = λ w. no_access w w refl refl;
  last = traced_join;
  read = read_traced;
  wrote = write_traced;
  stored = λ w s. no_access w _ refl refl;
  served = λ w service word answer g e. no_access w _ refl refl;
  turned = λ w n e. no_access w _ refl refl;
}

pub traced_framed : (w : World) (sp : ℕ) → Traced w (with_data_sp sp w)
traced_framed w sp = no_access w _ refl refl

-- ---- the same where memory is changed outside too

allowed_of : (w u : World) → Traced w u → AccessesAllowed w u
allowed_of w u h = record { more = h.more; is = h.is; allowed = h.allowed }

allowed_join : (w u v : World) → AccessesAllowed w u → AccessesAllowed u v → AccessesAllowed w v
allowed_join w u v h g = record { more = h.more ++ g.more; is = g.is ∙ ap (λ us. us ++ g.more) h.is ∙ append_assoc w.accesses h.more g.more; allowed = none-refused h.more g.more h.allowed g.allowed }

pub all_allowed : Keeps AccessesAllowed AccessesAllowed
all_allowed = record {
  same = λ w. allowed_of w w (all_traced.same w);
  join = allowed_join;
  ends = λ w. allowed_of w w (all_traced.same w);
  last = allowed_join;
  read = λ w n a e. allowed_of w _ (read_traced w n a e);
  wrote = λ w n a v e. allowed_of w _ (write_traced w n a v e);
  stored = λ w s. allowed_of w _ (all_traced.stored w s);
  served = λ w service word answer g e. allowed_of w _ (all_traced.served w service word answer g e);
  turned = λ w n e. allowed_of w _ (all_traced.turned w n e);
}

pub allowed_framed : (w : World) (sp : ℕ) → AccessesAllowed w (with_data_sp sp w)
allowed_framed w sp = allowed_of w _ (traced_framed w sp)

module _ (event : Events) where
  pub in_pieces : Keeps (InPieces event) (InPieces event)
  in_pieces = record {
    same = λ w. PieceOfSteps w w (all_traced.same w);
    join = λ w u v h g. Joined w u v h g;
    ends = λ w. PieceOfSteps w w (all_traced.same w);
    last = λ w u v h g. Joined w u v h g;
    read = λ w n a e. PieceOfSteps w _ (read_traced w n a e);
    wrote = λ w n a v e. PieceOfSteps w _ (write_traced w n a v e);
    stored = λ w s. PieceOfSteps w _ (all_traced.stored w s);
    served = λ w service word answer g e. PieceOfSteps w _ (all_traced.served w service word answer g e);
    turned = λ w n e. PieceOfSteps w _ (all_traced.turned w n e);
  }

  pub pieces_framed : (w : World) (sp : ℕ) → InPieces event w (with_data_sp sp w)
  pieces_framed w sp = PieceOfSteps w _ (traced_framed w sp)

-- ---- the data stack pointer, where functions come back

pub same_frame : Keeps SameFrame Anywhere
same_frame = record {
  same = λ w. refl;
  join = λ w u v h g. g ∙ h;
  ends = λ w. tt;
  last = λ w u v h g. tt;
  read = λ w n a e. refl;
  wrote = λ w n a v e. refl;
  stored = λ w s. refl;
  served = λ w service word answer g e. refl;
  turned = λ w n e. refl;
}

came_back : (sp n : ℕ) (v : Value) (u : World) → Leads (λ x. x.data_sp ≡ sp) (λ x. Unit {0}) (turn_from n u (λ x. Comes v (with_data_sp sp x)))
came_back sp zero v u = tt
came_back sp (suc n) v u = refl

given_back : (sp : ℕ) (o : Outcome) → Leads (λ x. x.data_sp ≡ sp) (λ x. Unit {0}) (returning sp o)
given_back sp (Comes v u) = came_back sp u.turns v u
given_back sp (Stops why u) = tt
given_back sp Stuck = tt

if_full : (sp : ℕ) (full : Bool) (w : World) (o : Outcome) → Leads (λ x. x.data_sp ≡ sp) (λ x. Unit {0}) o → Leads (λ x. x.data_sp ≡ sp) (λ x. Unit {0}) (cond full (Stops StackIsOver w) o)
if_full sp true w o h = tt
if_full sp false w o h = h

entered : (sp frame : ℕ) (w : World) (go : World → Outcome) → ((u : World) → Leads (λ x. x.data_sp ≡ sp) (λ x. Unit {0}) (go u)) → Leads (λ x. x.data_sp ≡ sp) (λ x. Unit {0}) (entering frame w go)
entered sp frame w go h = if_full sp (nat_lt w.data_sp (data_stack.from + frame)) w (go (with_data_sp (w.data_sp - frame) w)) (h (with_data_sp (w.data_sp - frame) w))

turned : (n : ℕ) (w : World) (go : World → Outcome) → ((u : World) → u.data_sp ≡ w.data_sp → Leads (λ x. x.data_sp ≡ w.data_sp) (λ x. Unit {0}) (go u)) → Leads (λ x. x.data_sp ≡ w.data_sp) (λ x. Unit {0}) (turn_from n w go)
turned zero w go h = tt
turned (suc n) w go h = h (with_turns n w) refl

pub frames_given_back : (program : ℕ → Linked) (outside : Callee → Callee) (depth f : ℕ) (args : List Value) (w : World) → Leads (SameFrame w) (Anywhere w) (calls program outside depth f args w)
frames_given_back program outside zero f args w = turned w.turns w _ (λ u e. tt)
frames_given_back program outside (suc depth) f args w = turned w.turns w _ (λ u e.
    let body : World → Outcome = λ x. body_run (program f) (calls program outside depth) (outside (calls program outside depth)) args x in
    let P : ℕ → Type 0 = λ sp. Leads (λ x. x.data_sp ≡ sp) (λ x. Unit {0}) (entering (program f).fun.frame u (λ x. returning u.data_sp (body x))) in
    subst P e (entered u.data_sp (program f).fun.frame u (λ x. returning u.data_sp (body x)) (λ x. given_back u.data_sp (body x))))

pub same_legacy_stack : Keeps SameLegacyStack Anywhere
same_legacy_stack = record {
  same = λ w. refl;
  join = λ w u v h g. g ∙ h;
  ends = λ w. tt;
  last = λ w u v h g. tt;
  read = λ w n a e. refl;
  wrote = λ w n a v e. refl;
  stored = λ w s. refl;
  served = λ w service word answer g e. refl;
  turned = λ w n e. refl;
}
