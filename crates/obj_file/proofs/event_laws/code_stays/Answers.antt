use Rattle.obj_file.proofs.CodeStays.{tabled_event_same, tabled_run_same, stored_event_same, stored_run_same}
use Rattle.obj_file.proofs.event_laws.code_stays.Goals as goal

pub returns-clause-event : goal.returns-clause-event
returns-clause-event c = tabled_event_same

pub returns-clause-run : goal.returns-clause-run
returns-clause-run c = tabled_run_same

pub returns-clause-stored_event : goal.returns-clause-stored_event
returns-clause-stored_event c = stored_event_same

pub returns-clause-stored_run : goal.returns-clause-stored_run
returns-clause-stored_run c = stored_run_same
