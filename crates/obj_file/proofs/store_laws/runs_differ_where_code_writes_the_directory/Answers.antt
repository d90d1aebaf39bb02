use Rattle.obj_file.proofs.StoredExample.{walk_rewritten, store_kept}
use Rattle.obj_file.proofs.store_laws.runs_differ_where_code_writes_the_directory.Goals as goal

pub returns-clause-walk : goal.returns-clause-walk
returns-clause-walk c = walk_rewritten

pub returns-clause-store : goal.returns-clause-store
returns-clause-store c = store_kept
