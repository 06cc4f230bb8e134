-- What a line of a script calls for.
use Rattle.std.specs.Prelude.{ℕ, ◌-◌, cond, Some, None, Option, ◌==◌}
use Rattle.power.specs.declared.Call.TheVariants as call
use Rattle.power.specs.declared.Next.{Next}
use Rattle.power.specs.declared.Next.TheVariants.{Calls, Tick, Over}
use Rattle.script.specs.declared.line.Line.{Line}
use Rattle.script.specs.declared.line.Line.TheVariants as line

-- a call, a tick or the end; all else is done with at once
abbrev pub calls_for : Line → Option Next
calls_for (line.Part x p) = None
calls_for (line.Unfit x) = None
calls_for line.Run = None
calls_for line.New = Some Over
calls_for (line.Want u x l) = Some (Calls (call.Want u x l))
calls_for (line.Give u) = Some (Calls (call.Give u))
calls_for (line.Tick n) = cond (n == 0) None (Some Tick)
calls_for (line.Bad x) = None
calls_for (line.Slow x n) = None
calls_for line.Least = None
calls_for (line.Gives n) = None
calls_for line.Drawn = None

-- the ticks that are still to come after that
abbrev pub ticks_after : Line → ℕ → ℕ
ticks_after (line.Part x p) t = t
ticks_after (line.Unfit x) t = t
ticks_after line.Run t = t
ticks_after line.New t = t
ticks_after (line.Want u x l) t = t
ticks_after (line.Give u) t = t
ticks_after (line.Tick n) t = cond (n == 0) t (n - 1)
ticks_after (line.Bad x) t = t
ticks_after (line.Slow x n) t = t
ticks_after line.Least t = t
ticks_after (line.Gives n) t = t
ticks_after line.Drawn t = t
