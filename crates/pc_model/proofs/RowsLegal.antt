-- The worked histories are legal, and their neighbours are not: all of it computes.
use Rattle.std.proofs.Common.{◌≡◌, true, reverse, refl}
use Rattle.pc_model.proofs.OnLiterals.{history_on_literals}
use Rattle.pc_model.specs.Test.{is_legal}
use Rattle.pc_model.specs.Rows.{plain_setup, retry_setup, pressed_setup, row_given, first_path, crash_and_resume, retry, stale_result, pressure, drain_and_close, failed_commit, failed_commit_applied, neighbours, retry_neighbours, pressed_neighbours, are_refused}

pub first_path-is_legal : is_legal (row_given plain_setup) (reverse first_path) ≡ true
unfolding history_on_literals plain_setup
first_path-is_legal = refl

pub crash_and_resume-is_legal : is_legal (row_given plain_setup) (reverse crash_and_resume) ≡ true
unfolding history_on_literals plain_setup
crash_and_resume-is_legal = refl

pub retry-is_legal : is_legal (row_given retry_setup) (reverse retry) ≡ true
unfolding history_on_literals retry_setup
retry-is_legal = refl

pub stale_result-is_legal : is_legal (row_given plain_setup) (reverse stale_result) ≡ true
unfolding history_on_literals plain_setup
stale_result-is_legal = refl

pub pressure-is_legal : is_legal (row_given pressed_setup) (reverse pressure) ≡ true
unfolding history_on_literals pressed_setup
pressure-is_legal = refl

pub drain_and_close-is_legal : is_legal (row_given plain_setup) (reverse drain_and_close) ≡ true
unfolding history_on_literals plain_setup
drain_and_close-is_legal = refl

pub failed_commit-is_legal : is_legal (row_given plain_setup) (reverse failed_commit) ≡ true
unfolding history_on_literals plain_setup
failed_commit-is_legal = refl

pub failed_commit_applied-is_legal : is_legal (row_given plain_setup)
    (reverse failed_commit_applied) ≡ true
unfolding history_on_literals plain_setup
failed_commit_applied-is_legal = refl

pub neighbours-are_refused : are_refused (row_given plain_setup) neighbours ≡ true
unfolding history_on_literals plain_setup
neighbours-are_refused = refl

pub retry_neighbours-are_refused : are_refused (row_given retry_setup) retry_neighbours ≡ true
unfolding history_on_literals retry_setup
retry_neighbours-are_refused = refl

pub pressed_neighbours-are_refused : are_refused (row_given pressed_setup) pressed_neighbours ≡ true
unfolding history_on_literals pressed_setup
pressed_neighbours-are_refused = refl
