-- A sequence cut at one of its events: what stood before it is a sequence. Assumes nothing.
use mathlib.Core.Path.{refl}
use mathlib.Core.List.{List, [], ◌∷◌, ◌++◌}
use Prim.Native.Nat.{ℕ}
use Rattle.sequences.specs.Sequence.{Event, State, Step, Steps, Run}

record Cut (x : State) (before : List Event) (e : Event) (rest : List Event) (z : State) : Type 0 where
  here : State
  next : State
  steps : Steps x before here
  step : Step here e next
  more : Steps next rest z

cut : (x : State) (before : List Event) (e : Event) (rest : List Event) (z : State) → Steps x (before ++ e ∷ rest) z → Cut x before e rest z
unfolding Steps
cut x [] e rest z (y, (s, more)) = record { here = x; next = y; steps = refl; step = s; more = more }
cut x (b ∷ before) e rest z (y, (s, more)) =
    let c = cut y before e rest z more in
    record { here = c.here; next = c.next; steps = (y, (s, c.steps)); step = c.step; more = c.more }

-- an event of a sequence: the state that it meets, and the one that it leaves
pub record Moment (sheet : List ℕ) (before : List Event) (e : Event) (rest : List Event) (z : State) : Type 0 where
  pub here : State
  pub next : State
  pub run : Run sheet before here
  pub step : Step here e next
  pub more : Steps next rest z

pub moment : {sheet : List ℕ} {e : Event} {rest : List Event} {z : State} (before : List Event) → Run sheet (before ++ e ∷ rest) z → Moment sheet before e rest z
moment {e = e} {rest} {z} before R =
    let c = cut R.start before e rest z R.steps in
    record { here = c.here; next = c.next; run = record { start = R.start; starts = R.starts; steps = c.steps }; step = c.step; more = c.more }

-- ---- one event more

steps_append : (x y z : State) (events : List Event) (e : Event) → Steps x events y → Step y e z → Steps x (events ++ e ∷ []) z
unfolding Steps
steps_append x y z [] e is s = (z, (rw is at s, refl))
steps_append x y z (b ∷ events) e (w, (t, more)) s = (w, (t, steps_append w y z events e more s))

pub run_append : {sheet : List ℕ} {x y : State} (before : List Event) (e : Event) → Run sheet before x → Step x e y → Run sheet (before ++ e ∷ []) y
run_append {x = x} {y} before e R s =
    record { start = R.start; starts = R.starts; steps = steps_append R.start x y before e R.steps s }
