-- The example of the store of bounds, computed.
use Rattle.std.proofs.Common.{◌≡◌, ℕ, ◌<◌, Bool, true, false, cond, nat_eq, nat_lt, subst, List, [], ◌∷◌, length, refl, arith, Some}
use Rattle.std.specs.List.{All, AllByRecursion, list_all, starts_with}
use Rattle.std.proofs.lemmas.Bool.Decides.{nat_tests}
use Rattle.std.proofs.lemmas.Bool.{and_parts}
use Rattle.std.proofs.lemmas.List.Elements.{All-cons}
use Rattle.mx_base.specs.Bounds.{full_bounds, moved}
use Rattle.mx_base.specs.BoundsStore.{bounds_for, touched_with}
use Rattle.mx_base.specs.Memory.{number_at, with_number, list_at, with_list, first_refused, first_refused_around}
use Rattle.mx_base.specs.Regions.{is_readable, is_writable, is_executable, is_sealed}
use Rattle.mx_base.specs.Walk.{walk, directory_entry_at, table_entry_at, entry_in, with_entry, bounds_in, next_entry, with_next_table}
use Rattle.x86_forms.specs.declared.instr.Instr.{Instr}
use Rattle.x86_forms.specs.Processor.{part_written, address, pointer_address}
use Rattle.x86_forms.specs.Requests.{run}
use Rattle.x86_forms.specs.Spelling.{spelling, low_bytes, mod_of, disp_bytes, scale_code, modrm, sib, over_base, mem_bytes, rm_bytes, index_high, base_high, rm_high, high_bits, is_low, rm_is_low, forces_rex, rex_bits, rex_bytes, prefix_bytes, escape_bytes, operand_bytes}
use Rattle.x86_forms.specs.Table.{row}
use Rattle.x86_forms.specs.Validity.{valid_of}
use Rattle.x86_forms.specs.Watch.{is_watched, is_c_access, first_sealed, access_strays, control_strays, is_in_outer, begins_outer, may_enter, is_legacy_control}
use Rattle.obj_file.specs.Image.{IsImage, room_at}
use Rattle.obj_file.specs.Machine.{Is, executed, reach_strays, asked, deed_of, reading_at, event}
use Rattle.obj_file.specs.Runs.{run_within, room, run_of}
use Rattle.obj_file.specs.Loaded.{tabled_read, tabled_write, tabled_load, tabled_keep, table_made, ground_of, state_at_start, image_run}
use Rattle.obj_file.specs.Stored.{stored_read, stored_write, is_touched, stored_load, stored_keep, megabyte_touched, stored_at_start, stored_run}
use Rattle.obj_file.specs.StoreLaw.{HaveBytes, is_of_bounds, ReadsValid, EventStaysOut, StaysOutWithin, RunStaysOut}
use Rattle.obj_file.specs.ExamplesOfStore.{rewriting_code, rewriting_bytes, image_with, loaded_at_stop, example_code, example_bytes, example_image, example_mode, reader_of, walk_seen, store_seen, seen_over_walk, seen_over_store}

pub walk_computes : (bare : Bool) → walk_seen (image_run (reader_of example_code) example_image (example_mode bare) 0 []) ≡ seen_over_walk
unfolding image_run run_of room run_within state_at_start event reading_at reader_of deed_of executed reach_strays asked run row part_written address pointer_address tabled_read tabled_write tabled_load tabled_keep table_made with_next_table next_entry walk directory_entry_at table_entry_at entry_in with_entry bounds_in number_at with_number list_at with_list first_refused first_refused_around is_readable is_writable is_executable is_sealed is_watched is_c_access first_sealed access_strays control_strays is_in_outer begins_outer may_enter is_legacy_control low_bytes mod_of disp_bytes scale_code modrm sib over_base mem_bytes rm_bytes index_high base_high rm_high high_bits is_low rm_is_low forces_rex rex_bits rex_bytes prefix_bytes escape_bytes operand_bytes
walk_computes true = refl
walk_computes false = refl

pub store_computes : (bare : Bool) → store_seen (stored_run (reader_of example_code) example_image (example_mode bare) 0 []) ≡ seen_over_store
unfolding stored_run run_of room run_within stored_at_start event reading_at reader_of deed_of executed reach_strays asked run row part_written address pointer_address stored_read stored_write is_touched stored_load stored_keep megabyte_touched touched_with directory_entry_at bounds_for number_at with_number list_at with_list first_refused first_refused_around is_readable is_writable is_executable is_sealed is_watched is_c_access first_sealed access_strays control_strays is_in_outer begins_outer may_enter is_legacy_control low_bytes mod_of disp_bytes scale_code modrm sib over_base mem_bytes rm_bytes index_high base_high rm_high high_bits is_low rm_is_low forces_rex rex_bits rex_bytes prefix_bytes escape_bytes operand_bytes
store_computes true = refl
store_computes false = refl

-- ---- the reader and the image

pub reader_valid : (is : List Instr) → AllByRecursion (λ i. valid_of i ≡ true) is → ReadsValid (reader_of is)
unfolding reader_of
reader_valid [] ok bytes i size small read = absurd (cc)
reader_valid (j ∷ rest) ok bytes i size small read =
    elim (starts_with nat_eq bytes (spelling j)) as (λ b. cond b (Is j (length (spelling j))) (reader_of rest bytes) ≡ Is i size → valid_of i ≡ true) [
      | true ↦ λ e. let same : j ≡ i = cc in subst (λ (k : Instr). valid_of k ≡ true) same ok.0
      | false ↦ λ e. reader_valid rest ok.1 bytes i size small e
    ] read

pub example_readable : ReadsValid (reader_of example_code)
example_readable = reader_valid example_code (refl, (refl, (refl, (refl, (refl, tt)))))

all_bytes : (bs : List ℕ) → list_all (λ b. nat_lt b 256) bs ≡ true → All (λ b. b < 256) bs
all_bytes [] h = λ k d low. absurd (omega arith)
all_bytes (b ∷ bs) h = let parts = and_parts (nat_lt b 256) (list_all (λ b. nat_lt b 256) bs) h in All-cons (λ b. b < 256) b bs (grind (arith, nat_tests, parts.0)) (all_bytes bs parts.1)

pub example_is_image : IsImage example_image × HaveBytes example_image.segments
unfolding room_at
example_is_image = (
  record {
    few_outers = omega arith;
    few_segments = omega arith;
    segments = (record { after = omega arith; some = omega arith; within = omega arith }, tt);
    few_files = omega arith;
    files = tt;
    few_places = omega arith;
    places = tt;
  },
  (all_bytes example_bytes refl, tt),
)

-- ---- its accesses: the push alone makes one

stack_stays : (k : ℕ) → k < 8 → is_of_bounds (moved 0x71ff_fff8 k) ≡ false
unfolding is_of_bounds moved
stack_stays k low = grind (arith, nat_tests)

pub example_stays : (bare : Bool) → RunStaysOut (ground_of (reader_of example_code) 0 (example_mode bare)) 0 (state_at_start example_image.segments false [])
unfolding RunStaysOut StaysOutWithin EventStaysOut room state_at_start event reading_at reader_of deed_of executed reach_strays asked run row part_written address pointer_address tabled_read tabled_write tabled_load tabled_keep table_made with_next_table next_entry walk directory_entry_at table_entry_at entry_in with_entry bounds_in number_at with_number list_at with_list first_refused first_refused_around is_readable is_writable is_executable is_sealed is_watched is_c_access first_sealed access_strays control_strays is_in_outer begins_outer may_enter is_legacy_control low_bytes mod_of disp_bytes scale_code modrm sib over_base mem_bytes rm_bytes index_high base_high rm_high high_bits is_low rm_is_low forces_rex rex_bits rex_bytes prefix_bytes escape_bytes operand_bytes
example_stays true = ((λ code. tt), ((λ code. ((λ judged. stack_stays), tt)), ((λ code. tt), ((λ code. tt), ((λ code. tt), ((λ code. tt), tt))))))
example_stays false = ((λ code. tt), ((λ code. ((λ judged. stack_stays), tt)), ((λ code. tt), ((λ code. tt), ((λ code. tt), ((λ code. tt), tt))))))

-- ---- code that writes the directory

pub walk_rewritten : loaded_at_stop (image_run (reader_of rewriting_code) (image_with rewriting_bytes) (example_mode true) 0 []) ≡ Some full_bounds
unfolding image_run run_of room run_within state_at_start event reading_at reader_of deed_of executed reach_strays asked run row part_written address pointer_address tabled_read tabled_write tabled_load tabled_keep table_made with_next_table next_entry walk directory_entry_at table_entry_at entry_in with_entry bounds_in number_at with_number list_at with_list first_refused first_refused_around is_readable is_writable is_executable is_sealed is_watched is_c_access first_sealed access_strays control_strays is_in_outer begins_outer may_enter is_legacy_control low_bytes mod_of disp_bytes scale_code modrm sib over_base mem_bytes rm_bytes index_high base_high rm_high high_bits is_low rm_is_low forces_rex rex_bits rex_bytes prefix_bytes escape_bytes operand_bytes
walk_rewritten = refl

pub store_kept : loaded_at_stop (stored_run (reader_of rewriting_code) (image_with rewriting_bytes) (example_mode true) 0 []) ≡ Some record { lb = 0; ub = 7 }
unfolding stored_run run_of room run_within stored_at_start event reading_at reader_of deed_of executed reach_strays asked run row part_written address pointer_address stored_read stored_write is_touched stored_load stored_keep megabyte_touched touched_with directory_entry_at bounds_for number_at with_number list_at with_list first_refused first_refused_around is_readable is_writable is_executable is_sealed is_watched is_c_access first_sealed access_strays control_strays is_in_outer begins_outer may_enter is_legacy_control low_bytes mod_of disp_bytes scale_code modrm sib over_base mem_bytes rm_bytes index_high base_high rm_high high_bits is_low rm_is_low forces_rex rex_bits rex_bytes prefix_bytes escape_bytes operand_bytes
store_kept = refl
