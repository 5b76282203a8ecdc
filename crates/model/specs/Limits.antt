-- Document 01: limits of sheets and windows, in ticks.
use Rattle.std.specs.Prelude.{ℕ}

-- a window is no longer
abbrev pub longest_window : ℕ
longest_window = 2048

-- and ends no later
abbrev pub last_tick : ℕ
last_tick = 1000000

-- an action's period and execution time are no longer
abbrev pub longest_period : ℕ
longest_period = 1024

abbrev pub longest_time : ℕ
longest_time = 1024

-- nor is H
abbrev pub longest_hyperperiod : ℕ
longest_hyperperiod = 1024
