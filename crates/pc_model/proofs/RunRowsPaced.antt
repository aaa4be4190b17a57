-- The worked histories of runs are runs by their steps, and their neighbours are not: all of it
-- computes.
use Rattle.std.proofs.Common.{◌≡◌, true, reverse, refl}
use Rattle.pc_model.proofs.OnLiterals.{history_on_literals}
use Rattle.pc_model.specs.Rows.{plain_setup, row_given}
use Rattle.pc_model.specs.RunRows.{failing_setup, two_parts, is_run, crash_steps, run_with_a_crash, assign_step, undrained_run, two_parts_steps, run_cut_short, revoke_steps, run_with_a_revocation, are_strays, crash_strays, failing_strays, cut_strays, revoke_strays, long_run_loads}
use Rattle.pc_model.specs.Bound.{bound_of, event_bound}

pub crash-is_run : is_run (row_given plain_setup) crash_steps (reverse run_with_a_crash) ≡ true
unfolding history_on_literals plain_setup
crash-is_run = refl

pub undrained-is_run : is_run (row_given failing_setup) assign_step (reverse undrained_run) ≡ true
unfolding history_on_literals failing_setup
undrained-is_run = refl

pub cut-is_run : is_run two_parts two_parts_steps (reverse run_cut_short) ≡ true
unfolding history_on_literals plain_setup two_parts
cut-is_run = refl

pub revocation-is_run : is_run (row_given plain_setup) revoke_steps (reverse run_with_a_revocation) ≡ true
unfolding history_on_literals plain_setup
revocation-is_run = refl

pub crash-are_strays : are_strays (row_given plain_setup) crash_steps crash_strays ≡ true
unfolding history_on_literals plain_setup
crash-are_strays = refl

pub failing-are_strays : are_strays (row_given failing_setup) assign_step failing_strays ≡ true
unfolding history_on_literals failing_setup
failing-are_strays = refl

pub cut-are_strays : are_strays two_parts two_parts_steps cut_strays ≡ true
unfolding history_on_literals plain_setup two_parts
cut-are_strays = refl

pub revoke-are_strays : are_strays (row_given plain_setup) revoke_steps revoke_strays ≡ true
unfolding history_on_literals plain_setup
revoke-are_strays = refl

pub long-bound : bound_of long_run_loads 17 ≡ 882905
long-bound = refl

pub failing-bound : event_bound (row_given failing_setup) assign_step ≡ 27
unfolding failing_setup
failing-bound = refl
