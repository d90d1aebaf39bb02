use Rattle.mx_run.specs.Reads.{reader}
use Rattle.mx_run.proofs.ReaderLaws.{reader_reads}
use Rattle.mpx_words.proofs.Causes.{answers_same, never_two, three_causes, four_causes}
use Rattle.mpx_words.proofs.Meanings.{one_meaning}
use Rattle.mpx_words.proofs.run.run_words.Goals as goal

pub returns-in-Some-clause-answers : goal.returns-in-Some-clause-answers
returns-in-Some-clause-answers g c = λ reads exact command means. answers_same reads _ command _ _ _ (one_meaning _ _ command c.in-Some.ensures.means means) (c.do_command.ensures reads exact)

pub returns-in-Some-clause-refused : goal.returns-in-Some-clause-refused
returns-in-Some-clause-refused g c = λ e. absurd (never_two reader _ _ _ _ (c.do_command.ensures reader reader_reads) e)

pub returns-in-Some-clause-read_fault : goal.returns-in-Some-clause-read_fault
returns-in-Some-clause-read_fault g c = three_causes reader _ _ _ _ (c.do_command.ensures reader reader_reads)

pub returns-in-Some-clause-write_fault : goal.returns-in-Some-clause-write_fault
returns-in-Some-clause-write_fault g c = four_causes reader _ _ _ _ (c.do_command.ensures reader reader_reads)
