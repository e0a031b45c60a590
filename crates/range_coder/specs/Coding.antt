-- A list of choices put into an encoder or got from a reader, with the states that it leaves.
use Rattle.std.specs.Prelude.{◌≡◌, ℕ, ◌+◌, ◌<◌, ◌≤◌, List, ◌++◌, length}
use Rattle.range_coder.specs.Encoding.{Encoding}
use Rattle.range_coder.specs.Reading.{Reader, ReadsOn}
use Rattle.range_coder.specs.Choices.{Choice, states_after, decided, chosen}

-- an encoder and its states, before and after a list of choices
pub record Puts (table : List ℕ) (before : Encoding) (states : List ℕ) (after : Encoding) (left : List ℕ) (choices : List Choice) : Type 0 where
  pub interval : after.interval ≡ chosen table states before.interval choices
  pub adapts : left ≡ states_after table states choices
  pub spare : before.spare ≤ after.spare + length choices

-- the same where one of the choices was refused: those before it stand, it and those after it don't, and there was
-- too little room
pub record PutsFront (table : List ℕ) (before : Encoding) (states : List ℕ) (after : Encoding) (left : List ℕ) (choices : List Choice) : Type 0 where
  pub front : List Choice
  pub rest : List Choice
  pub is : choices ≡ front ++ rest
  pub some : 1 ≤ length rest
  pub puts : Puts table before states after left front
  pub short : before.spare < length choices

-- a reader and its states, before and after a list of choices
pub record Gets (table : List ℕ) (before : Reader) (states : List ℕ) (after : Reader) (left : List ℕ) (choices : List Choice) : Type 0 where
  pub reads : ReadsOn before after (decided table states choices)
  pub adapts : left ≡ states_after table states choices
