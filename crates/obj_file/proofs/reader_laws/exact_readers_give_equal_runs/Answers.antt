use Rattle.obj_file.specs.Loaded.{ground_of}
use Rattle.obj_file.proofs.Readers.{same_reading, run_same, accesses_same_of, tabled_bytes_stay, same_run, same_accesses, same_stored_run, same_stored_accesses}
use Rattle.obj_file.proofs.reader_laws.exact_readers_give_equal_runs.Goals as goal

pub returns-clause-reads : goal.returns-clause-reads
returns-clause-reads c = same_reading

pub returns-clause-run : goal.returns-clause-run
returns-clause-run c reads other exact also outers mode = run_same (ground_of reads outers mode) other exact also (tabled_bytes_stay reads outers mode)

pub returns-clause-accesses : goal.returns-clause-accesses
returns-clause-accesses c reads other exact also outers mode = accesses_same_of (ground_of reads outers mode) other exact also (tabled_bytes_stay reads outers mode)

pub returns-clause-image : goal.returns-clause-image
returns-clause-image c = same_run

pub returns-clause-image_accesses : goal.returns-clause-image_accesses
returns-clause-image_accesses c = same_accesses

pub returns-clause-stored : goal.returns-clause-stored
returns-clause-stored c = same_stored_run

pub returns-clause-stored_accesses : goal.returns-clause-stored_accesses
returns-clause-stored_accesses c = same_stored_accesses
