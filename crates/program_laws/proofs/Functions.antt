-- The code of a C function does its steps, one level deeper.
use Rattle.call_sigs.specs.Signatures.{Pointer}
use Rattle.step_code.specs.Homing.{homing, taken, FineArguments}
use Rattle.mx_base.specs.StopOfC.{AccessOfC}
use Rattle.gate_laws.specs.Moments.{Moment, Final}
use Rattle.obj_file.specs.Finals.{final}
use Rattle.code_laws.specs.Views.{View}
use Rattle.code_laws.specs.Seen.{Setting, IsSetting, Seen}
use Rattle.step_code.specs.Steps.{end_pieces}
use Rattle.code_laws.specs.Laid.{Laid, StandAll}
use Rattle.step_code.specs.Homes.{Assigned}
use Rattle.code_laws.specs.Runs.{In, Leads, whole_of}
use Rattle.program_laws.proofs.Sized.{Sizes, AreSizes, counts, enters, inner_return}
use Rattle.program_laws.proofs.Homed.{Homed}
use Rattle.program_laws.proofs.Homing.{homed as place_homes}
use Rattle.std.specs.Prelude.{nat_lt, slice_index_or}
use Rattle.std.proofs.Common.{◌≡◌, ℕ, zero, suc, ◌+◌, ◌-◌, ◌*◌, ◌^◌, ◌<◌, ◌≤◌, true, false, Option, List, refl, arith, ap, ◌∙◌, sym, subst}
use Rattle.std.proofs.lemmas.Bool.{cond_both}
use Rattle.std.proofs.lemmas.Bool.Decides.{nat_tests}
use Rattle.mx_base.specs.declared.numbers.IntKind.{IntKind}
use Rattle.mx_base.specs.Memory.{Bytes, number_at}
use Rattle.mx_base.specs.Regions.{data_stack}
use Rattle.mx_base.specs.World.{World}
use Rattle.mx_base.proofs.MemoryLemmas.{number_at-lt}
use Rattle.x86_forms.specs.Watch.{is_in_outer}
use Rattle.obj_file.specs.Machine.{IsReader}
use Rattle.obj_file.specs.Stored.{Stored}
use Rattle.fat_ir.specs.Values.{Value}
use Rattle.fat_ir.specs.Calls.{Callee, Outcome, Comes, Stops, Stuck, with_turns, with_data_sp, turn_from, taking_turn, entering, returning}
use Rattle.fat_ir.specs.Functions.{Linked, body_run, symbols_of, values_at_entry}
use Rattle.fat_ir.specs.Laws.{Leads as WorldLeads, LeftByCalls, NoMoreTurns, SameFrame, Anywhere}
use Rattle.legacy_calls.specs.Legacy.{Linkage, ground}
use Rattle.gate_laws.specs.Placed.{IsPlaced}
use Rattle.gate_laws.specs.Standing.{AtCall, Arrive, CallEnds, Calls}
use Rattle.gate_laws.specs.Effects.{end_of}
use Rattle.code_laws.proofs.Core.{function_goes}
use Rattle.step_code.specs.Asked.{FineSteps}
use Rattle.program_laws.specs.Functions.{entries_of, returns_in, takes_in}
use Rattle.program_laws.specs.Borders.{moment_of, setting_of}
use Rattle.program_laws.specs.Entering.{Begins, Enters}
use Rattle.step_code.specs.Functions.{Layout}
use Rattle.code_laws.specs.Runs as core
use Rattle.program_laws.proofs.Bridge.{calls_there, ends_as, as_final}
use Rattle.program_laws.proofs.Enter as enter
use Rattle.program_laws.proofs.Leave.{leaves}

-- the parts of a C function where they stand, with the homes of its values
pub record Parts (k : Linkage) (image : Bytes) (places : ℕ → Option AccessOfC) (inner stub : ℕ → ℕ) (l : Linked) (f : ℕ) : Type 0 where
  pub small : inner f < 2 ^ 62
  pub sizes : Sizes
  pub sized : AreSizes sizes
  pub layout : Layout
  pub few_words : 8 * layout.units ≤ 4032
  pub few_bytes : l.fun.frame ≤ 0x0400_0000
  pub counts_placed : IsPlaced k image (inner f) (counts sizes)
  pub enters_placed : IsPlaced k image (end_of (inner f) (counts sizes)) (enters sizes l.fun.frame layout.units)
  pub small_labels : (n : ℕ) → layout.label_at n < 2 ^ 62
  pub assigned : Assigned layout.units l.fun.private l.fun.steps layout.plan layout.first layout.last
  pub base : ℕ
  pub end : ℕ
  pub laid : Laid image layout.label_at (entries_of inner stub l) layout.plan places base l.fun.steps end
  pub tail : StandAll image layout.label_at (entries_of inner stub l) end end_pieces (layout.label_at layout.plan.exit)
  pub returns_placed : IsPlaced k image (layout.label_at layout.plan.exit) (inner_return sizes l.fun.frame layout.units)
  pub away : is_in_outer k.outers (layout.label_at layout.plan.exit + 8 + sizes.frame_given + 8 + 8 + sizes.one_taken + 8 + sizes.words_given) ≡ false
  pub pointer : (k.own f).result ≡ Pointer → layout.plan.pointer ≡ true
  pub fine : FineSteps layout.units layout.plan l.located l.fun.steps layout.first layout.last (returns_in k l) (takes_in k l) 0 l.fun.steps
  -- homes at the entry: sorts agree, and no home is one where an argument still stands
  pub homing_laid : StandAll image layout.label_at (entries_of inner stub l) (end_of (end_of (inner f) (counts sizes)) (enters sizes l.fun.frame layout.units)) (homing layout.plan l.fun.private l.parameters) base
  pub sorts : (x : ℕ) → x < l.fun.private → slice_index_or l.fun.bounds x false ≡ layout.plan.is_bounds x
  pub few_taken : taken l.parameters ≤ l.fun.private
  pub parameters_fine : FineArguments layout.plan layout.first 0 l.fun.private 0 0 l.parameters (k.own f).parameters

-- the data stack pointer stays while a body runs
abbrev pub KeepsFrame : Linked → (own other : Callee) → Type 0
KeepsFrame l own other = (args : List Value) (w : World) → WorldLeads (SameFrame w) (Anywhere w) (body_run l own other args w)

module _ (k : Linkage) (image : Bytes) (places : ℕ → Option AccessOfC) (reader : IsReader k.reads) (inner stub : ℕ → ℕ) (l : Linked) (f : ℕ) (fn : Parts k image places inner stub l f)
    (d : ℕ) (args : List Value) (w : World) (m : Moment) (call : AtCall k image (suc d) 64 (inner f) (k.own f) args w m) where
  abbrev F : Moment → Final
  F x = final (ground k) x

  abbrev frame : ℕ
  frame = l.fun.frame

  abbrev V : ℕ
  V = w.data_sp

  abbrev Goal : Outcome → Type 0
  Goal o = CallEnds k image places (suc d) (k.own f).result m o

  low_s : 0x7100_0000 + 4088 * suc d + 56 ≤ enter.s k image places (inner f) fn.small (k.own f) args w m (suc d) call
  low_s = enter.low_s k image places (inner f) fn.small (k.own f) args w m (suc d) call

  high_s : enter.s k image places (inner f) fn.small (k.own f) args w m (suc d) call + 8 ≤ 0x7200_0000
  high_s = enter.high_s k image places (inner f) fn.small (k.own f) args w m (suc d) call

  module _ (j : ℕ) (turns : w.turns ≡ suc j) (room : 0x5000_0000 + frame ≤ V) where
    abbrev s : ℕ
    s = enter.s k image places (inner f) fn.small (k.own f) args w m (suc d) call

    abbrev D : ℕ
    D = enter.D k image places (inner f) fn.small (k.own f) args w m (suc d) call

    abbrev y3 : Stored
    y3 = enter.y3 k image places (inner f) fn.small (k.own f) args w m (suc d) call fn.sizes fn.sized fn.counts_placed (omega arith) frame fn.layout.units fn.few_bytes fn.few_words fn.enters_placed

    abbrev sp : ℕ
    sp = s - 8 * fn.layout.units

    abbrev U : Setting
    U = setting_of k image y3.bytes sp fn.layout.units (D + 1) fn.layout.label_at (entries_of inner stub l)

    abbrev v0 : View
    v0 = enter.view k image places (inner f) fn.small (k.own f) args w m (suc d) call fn.sizes fn.sized fn.counts_placed (omega arith) frame fn.layout.units fn.few_bytes fn.few_words fn.enters_placed room j

    abbrev x0 : World
    x0 = with_data_sp (V - frame) (with_turns j w)

    ok : IsSetting U
    ok = let l = low_s in let h = high_s in let few = fn.few_words in record { reader = reader; low = omega arith; high = omega arith; labels = fn.small_labels }

    deep : D + suc d ≡ 4096
    deep = enter.deep k image places (inner f) fn.small (k.own f) args w m (suc d) call

    seen0 : Seen U v0 y3
    seen0 = enter.seen k image places (inner f) fn.small (k.own f) args w m (suc d) call fn.sizes fn.sized fn.counts_placed (omega arith) frame fn.layout.units fn.few_bytes fn.few_words fn.enters_placed room fn.layout.label_at (entries_of inner stub l) j

    reached : (n : ℕ) × (F m ≡ F (moment_of v0 y3 n))
    reached = let went = enter.entered k image places (inner f) fn.small (k.own f) args w m (suc d) call fn.sizes fn.sized fn.counts_placed (omega arith) frame fn.layout.units fn.few_bytes fn.few_words fn.enters_placed room j turns in
        let shares = call.stands.shares in
        (went.0, went.1 ∙ (λ i. F (record { state = record { processor = v0.processor; memory = y3; guest = shares.guest i; steps = went.0 }; turns = j; accesses = shares.accesses i })))

    arrived : Arrive 0 0 (k.own f).parameters args v0.processor
    arrived = arrive_kept 0 0 (k.own f).parameters args call.arrive
      where
        arrive_kept : (i b : ℕ) (ps : List (Option IntKind)) (xs : List Value) → Arrive i b ps xs m.state.processor → Arrive i b ps xs v0.processor
        arrive_kept i b ps xs h = enter.arrive_kept k image places (inner f) fn.small (k.own f) args w m (suc d) call fn.sizes fn.sized fn.counts_placed (omega arith) frame fn.layout.units fn.few_bytes fn.few_words fn.enters_placed room j i b ps xs h

    homed : (n : ℕ) → Homed U fn.layout.units l.fun.private (values_at_entry l.fun l.parameters args) l.fun.steps fn.layout.plan fn.layout.first fn.layout.last fn.assigned fn.base (whole_of U v0 y3 n) x0
    homed n = place_homes U ok l.fun.steps fn.layout.plan fn.layout.first fn.layout.last l fn.sorts fn.assigned (k.own f).parameters fn.base fn.few_taken fn.parameters_fine args v0 y3 n seen0 fn.homing_laid arrived

    -- the steps begin
    pub begins : Begins k image places inner stub l fn.layout fn.assigned fn.base m args x0
    begins =
        let went = reached in
        let h = homed went.0 in
        record {
          view = h.view;
          memory = h.leads.memory;
          steps = h.leads.steps;
          frozen = y3.bytes;
          sp = sp;
          depth = D + 1;
          same = went.1 ∙ sym (as_final k image places y3.bytes sp fn.layout.units (D + 1) fn.layout.label_at (entries_of inner stub l) v0 y3 went.0) ∙ h.leads.same
              ∙ as_final k image places y3.bytes sp fn.layout.units (D + 1) fn.layout.label_at (entries_of inner stub l) h.view h.leads.memory h.leads.steps;
          at = h.at;
          world = h.world;
          seen = h.leads.seen;
          values = h.values;
        }

    address_there : number_at 8 y3.bytes s ≡ m.state.processor.rip + 6
    address_there = enter.address_there k image places (inner f) fn.small (k.own f) args w m (suc d) call fn.sizes fn.sized fn.counts_placed (omega arith) frame fn.layout.units fn.few_bytes fn.few_words fn.enters_placed

    kept_there : (t : ℕ) → s + 8 ≤ t → t < 0x7200_0000 → y3.bytes t ≡ m.state.memory.bytes t
    kept_there = enter.kept_there k image places (inner f) fn.small (k.own f) args w m (suc d) call fn.sizes fn.sized fn.counts_placed (omega arith) frame fn.layout.units fn.few_bytes fn.few_words fn.enters_placed

    small_v : V < 2 ^ 64
    small_v = let e = number_at-lt 8 m.state.memory.bytes 0x7000_0010 call.stands.shares.each_byte in let f = call.stands.data_sp in omega arith

    module _ (own other : Callee) (calls_own : Calls k image places d 64 k.outers inner k.own own) (calls_other : Calls k image places d 112 k.stubs stub k.legacy other)
        (left_own : LeftByCalls NoMoreTurns own) (left_other : LeftByCalls NoMoreTurns other) (keeps : KeepsFrame l own other) where
      calls_here : core.Calls U ok fn.layout.plan places (symbols_of l own other) (returns_in k l) (takes_in k l)
      calls_here = let e = deep in let lo = low_s in let few = fn.few_words in
          calls_there k image places reader y3.bytes sp fn.layout.units (D + 1) fn.layout.label_at inner stub l ok d (omega arith) (omega arith) fn.layout.plan own other calls_own calls_other left_own left_other

      -- what the steps come to
      body_ends : (n : ℕ) → F m ≡ F (moment_of v0 y3 n) → core.Ends U fn.layout.plan places (F m) (body_run l own other args x0)
      body_ends n there =
          let h = homed n in
          let same : F m ≡ whole_of U h.view h.leads.memory h.leads.steps = there ∙ sym (as_final k image places y3.bytes sp fn.layout.units (D + 1) fn.layout.label_at (entries_of inner stub l) v0 y3 n) ∙ h.leads.same in
          subst (λ (g : Final). core.Ends U fn.layout.plan places g (body_run l own other args x0)) (sym same)
          (subst (λ (u : World). core.Ends U fn.layout.plan places (whole_of U h.view h.leads.memory h.leads.steps) (body_run l own other args u)) h.world
          (function_goes U ok fn.layout.plan places (symbols_of l own other) l.fun.private l.fun.steps fn.layout.first fn.layout.last fn.assigned fn.base fn.end fn.laid fn.tail (returns_in k l) (takes_in k l) calls_here
          fn.fine (values_at_entry l.fun l.parameters args) h.view h.leads.memory h.leads.steps h.leads.seen h.values h.at))

      after : (o : Outcome) → WorldLeads (SameFrame x0) (Anywhere x0) o → core.Ends U fn.layout.plan places (F m) o → Goal (returning V o)
      after Stuck same h = tt
      after (Stops why w2) same h = ends_as U fn.layout.plan places (F m) why w2 h
      after (Comes value w2) same q =
          let r = q.view in
          let lo = low_s in let hi = high_s in let few = fn.few_words in
          let there : F m ≡ F (moment_of r q.leads.memory q.leads.steps) = q.leads.same ∙ as_final k image places y3.bytes sp fn.layout.units (D + 1) fn.layout.label_at (entries_of inner stub l) r q.leads.memory q.leads.steps in
          let inside : m.state.processor.rip < 0x1100_0000 = enter.rip_low k image places (inner f) fn.small (k.own f) args w m (suc d) call in
          let data_is : r.world.data_sp + frame ≡ V = let e = ap (λ (u : World). u.data_sp) q.world in let g = same in omega arith in
          subst (λ (u : World). Goal (turn_from u.turns u (λ x. Comes value (with_data_sp V x)))) q.world
          (leaves k image places y3.bytes s fn.layout.units D frame (m.state.processor.rip + 6) d fn.layout.label_at (entries_of inner stub l) (omega arith) hi deep (omega arith) address_there fn.few_bytes fn.sizes fn.sized
          r q.leads.memory q.leads.seen (subst (λ (a : ℕ). IsPlaced k image a (inner_return fn.sizes frame fn.layout.units)) (sym q.at) fn.returns_placed) V data_is small_v
          (subst (λ (a : ℕ). is_in_outer k.outers (a + 8 + fn.sizes.frame_given + 8 + 8 + fn.sizes.one_taken + 8 + fn.sizes.words_given) ≡ false) (sym q.at) fn.away)
          m q.leads.steps there (enter.s_is k image places (inner f) fn.small (k.own f) args w m (suc d) call) refl kept_there (k.own f).result value q.number (λ e. q.bounds (fn.pointer e)))

      with_room : Goal (returning V (body_run l own other args x0))
      with_room = let went = reached in after (body_run l own other args x0) (keeps args x0) (body_ends went.0 went.1)

  -- how a call begins
  pub enters_so : Enters k image places inner stub l fn.layout fn.assigned fn.base m args w
  enters_so = record {
    no_turn = λ e. enter.no_turn k image places (inner f) fn.small (k.own f) args w m (suc d) call e;
    no_room = λ j e less. enter.no_room k image places (inner f) fn.small (k.own f) args w m (suc d) call fn.sizes fn.sized fn.counts_placed (omega arith) frame fn.layout.units fn.few_bytes fn.few_words fn.enters_placed less j e;
    begins = λ j e room. begins j e room;
  }

  module _ (own other : Callee) (calls_own : Calls k image places d 64 k.outers inner k.own own) (calls_other : Calls k image places d 112 k.stubs stub k.legacy other)
      (left_own : LeftByCalls NoMoreTurns own) (left_other : LeftByCalls NoMoreTurns other) (keeps : KeepsFrame l own other) where
    by_turn : (t : ℕ) → w.turns ≡ t → Goal (turn_from t w (λ u. entering frame u (λ x. returning u.data_sp (body_run l own other args x))))
    by_turn zero e = enter.no_turn k image places (inner f) fn.small (k.own f) args w m (suc d) call e
    by_turn (suc j) e = cond_both (nat_lt V (data_stack.from + frame)) _ _ (λ (o : Outcome). Goal o)
        (λ less. enter.no_room k image places (inner f) fn.small (k.own f) args w m (suc d) call fn.sizes fn.sized fn.counts_placed (omega arith) frame fn.layout.units fn.few_bytes fn.few_words fn.enters_placed (grind (arith, nat_tests)) j e)
        (λ more. with_room j e (grind (arith, nat_tests)) own other calls_own calls_other left_own left_other keeps)

    pub one_level : Goal (taking_turn w (λ u. entering frame u (λ x. returning u.data_sp (body_run l own other args x))))
    one_level = by_turn w.turns refl
