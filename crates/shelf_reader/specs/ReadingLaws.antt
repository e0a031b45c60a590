-- Laws of readings and of what answers them.
use Rattle.std.proofs.Common.{◌≡◌, ℕ, ◌+◌, ◌≤◌, ◌==◌, Bool, true, false, cond, List, length, take, drop, Some, None, Result, Ok, Err, refl, ap, ◌∙◌, arith}
use Rattle.std.proofs.lemmas.Bool.{eqb-true}
use Rattle.shelf_core.specs.Pieces.{IsNotShort}
use Rattle.shelf_core.specs.Told.{Told, IsTold, content}
use Rattle.shelf_core.specs.declared.pieces.PieceError.{PieceError}
use Rattle.shelf_core.specs.declared.pieces.PieceError.TheVariants as piece
use Rattle.shelf_reader.specs.declared.error.ReadError.{ReadError}
use Rattle.shelf_reader.specs.declared.error.ReadError.TheVariants.{Fault, Failed, Short, NoMemory}
use Rattle.shelf_reader.specs.Errors.{read_error}
use Rattle.shelf_reader.specs.Seen.{Seen, seen, Sees, Agree, IsUnseen, Holds}
use Rattle.shelf_reader.specs.Readings.{Reading, gives, fails, looks, answers, thence_of, thence, Answers}

pub gives-is : {T : Type 0} (F : Type 0) (known : Seen) (value : T) → Answers {F = F} known (gives value) (Ok value)
unfolding Answers Sees gives
gives-is F None value = tt
gives-is F (Some bytes) value = refl

pub fails-is : {F : Type 0} (T : Type 0) (known : Seen) (fault : F) → Answers {T = T} known (fails fault) (Err (Fault fault))
unfolding Answers Sees fails
fails-is T None fault = tt
fails-is T (Some bytes) fault = refl

pub want-is : {T F : Type 0} (known : Seen) (reading : Reading T F) → Answers known reading (Err NoMemory)
unfolding Answers
want-is known reading = tt

-- a value of the bytes, as a reading
pub answers-is : {T : Type 0} (F : Type 0) (known : Seen) (f : List ℕ → T) (value : T) → Sees known f value → Answers {F = F} known (answers f) (Ok value)
unfolding Answers Sees answers
answers-is F None f value sees = tt
answers-is F (Some bytes) f value sees = ap Ok sees

-- two readings that give the same have the same answers
pub Agree-answers : {T F : Type 0} (known : Seen) (first second : Reading T F) (result : Result T (ReadError F)) → Agree known first second → Answers known second result → Answers known first result
unfolding Answers Agree Sees
Agree-answers None first second (Ok value) same answer = tt
Agree-answers (Some bytes) first second (Ok value) same answer = same ∙ answer
Agree-answers None first second (Err (Fault fault)) same answer = tt
Agree-answers (Some bytes) first second (Err (Fault fault)) same answer = same ∙ answer
Agree-answers known first second (Err (Short now)) same answer = answer
Agree-answers known first second (Err Failed) same answer = tt
Agree-answers known first second (Err NoMemory) same answer = tt

-- a refusal of one reading is that of another, which has the same faults
pub stops-so : {A T F : Type 0} (known : Seen) (first : Reading A F) (second : Reading T F) (error : ReadError F) → Answers known first (Err error) → ((bytes : List ℕ) (fault : F) → first bytes ≡ Err fault → second bytes ≡ Err fault) → Answers known second (Err error)
unfolding Answers Sees
stops-so None first second (Fault fault) answer so = tt
stops-so (Some bytes) first second (Fault fault) answer so = so bytes fault answer
stops-so known first second (Short now) answer so = answer
stops-so known first second Failed answer so = tt
stops-so known first second NoMemory answer so = tt

-- ---- one reading after another

pub agrees-thence : {A T F : Type 0} (known : Seen) (first : Reading A F) (next : A → Reading T F) (value : A) → Answers {F = F} known first (Ok value) → Agree known (thence first next) (next value)
unfolding Answers Sees Agree thence thence_of
agrees-thence None first next value answer = tt
agrees-thence (Some bytes) first next value answer = rw answer refl

pub thence-on : {A T F : Type 0} (known : Seen) (first : Reading A F) (next : A → Reading T F) (value : A) (result : Result T (ReadError F)) → Answers {F = F} known first (Ok value) → Answers known (next value) result → Answers known (thence first next) result
thence-on known first next value result answer after = Agree-answers known _ (next value) result (agrees-thence known first next value answer) after

thence-fault : {A T F : Type 0} (first : Reading A F) (next : A → Reading T F) (bytes : List ℕ) (fault : F) → first bytes ≡ Err fault → thence first next bytes ≡ Err fault
unfolding thence thence_of
thence-fault first next bytes fault e = rw e refl

pub thence-stops : {A T F : Type 0} (known : Seen) (first : Reading A F) (next : A → Reading T F) (error : ReadError F) → Answers known first (Err error) → Answers known (thence first next) (Err error)
thence-stops known first next error answer = stops-so known first (thence first next) error answer (thence-fault first next)

ok-value : {A F : Type 0} (x y : A) → (r : Result A F) → r ≡ Ok x → r ≡ Ok y → x ≡ y
ok-value x y r e f = cc

same-next : {A T F : Type 0} (next : A → Reading T F) (x y : A) (bytes : List ℕ) → x ≡ y → next x bytes ≡ next y bytes
same-next next x y bytes e = cc

agrees-looks : {A T F : Type 0} (known : Seen) (f : List ℕ → A) (next : A → Reading T F) (value : A) → Answers {F = F} known (answers f) (Ok value) → Agree known (looks f next) (next value)
unfolding Answers Sees Agree answers looks
agrees-looks None f next value answer = tt
agrees-looks (Some bytes) f next value answer = same-next next (f bytes) value bytes (ok-value (f bytes) value (answers f bytes) refl answer)

pub looks-on : {A T F : Type 0} (known : Seen) (f : List ℕ → A) (next : A → Reading T F) (value : A) (result : Result T (ReadError F)) → Answers {F = F} known (answers f) (Ok value) → Answers known (next value) result → Answers known (looks f next) result
looks-on known f next value result answer after = Agree-answers known _ (next value) result (agrees-looks known f next value answer) after

-- what always gives a value has no fault
always : {A F : Type 0} (x : A) (fault : F) → Ok x ≡ Err fault → ⊥
always x fault e = cc

answers-fault : {A F : Type 0} (f : List ℕ → A) (bytes : List ℕ) (fault : F) → answers f bytes ≡ Err fault → ⊥
unfolding answers
answers-fault f bytes fault e = always (f bytes) fault e

gives-fault : {A F : Type 0} (value : A) (bytes : List ℕ) (fault : F) → gives value bytes ≡ Err fault → ⊥
unfolding gives
gives-fault value bytes fault e = always value fault e

pub looks-stops : {A T F : Type 0} (known : Seen) (f : List ℕ → A) (next : A → Reading T F) (error : ReadError F) → Answers known (answers f) (Err error) → Answers known (looks f next) (Err error)
looks-stops known f next error answer = stops-so known (answers f) (looks f next) error answer (λ bytes fault e. absurd (answers-fault f bytes fault e))

pub gives-stops : {A T F : Type 0} (known : Seen) (value : A) (reading : Reading T F) (error : ReadError F) → Answers known (gives value) (Err error) → Answers known reading (Err error)
gives-stops known value reading error answer = stops-so known (gives value) reading error answer (λ bytes fault e. absurd (gives-fault value bytes fault e))

pub ruleset reading_laws = (gives-is, fails-is, want-is, answers-is, thence-on, thence-stops, looks-on, looks-stops, gives-stops)

-- ---- a piece that was read

-- a refusal of a piece inside the file is no fault of the bytes, and comes early from no file that is known
pub piece-stops : {T F : Type 0} (told : Told) (name : List ℕ) (len at room : ℕ) (error : PieceError) (reading : Reading T F) → at + room ≤ len → (IsTold told → at + room ≤ length (content told name) → IsNotShort error) → Answers (seen told name len) reading (Err (read_error error))
unfolding Answers IsUnseen seen IsTold
piece-stops None name len at room (piece.Short now) reading within whole = tt
piece-stops (Some files) name len at room (piece.Short now) reading within whole = by_cases (length (content (Some files) name) == len) refl
  where
    by_cases : (b : Bool) → (length (content (Some files) name) == len) ≡ b → IsUnseen (cond b (Some (content (Some files) name)) None)
    by_cases true e = let same = eqb-true _ _ e in whole tt (omega arith)
    by_cases false e = tt
piece-stops told name len at room piece.Failed reading within whole = tt
piece-stops told name len at room piece.NoMemory reading within whole = tt

-- a piece that was read stands in the file
pub Holds-piece : (told : Told) (name : List ℕ) (len at room : ℕ) (held : List ℕ) → at + room ≤ len → length held ≡ room → (IsTold told → at + room ≤ length (content told name) → held ≡ take room (drop at (content told name))) → Holds (seen told name len) at held
unfolding Holds seen IsTold
Holds-piece None name len at room held within count read = tt
Holds-piece (Some files) name len at room held within count read = by_cases (length (content (Some files) name) == len) refl
  where
    by_cases : (b : Bool) → (length (content (Some files) name) == len) ≡ b → Holds (cond b (Some (content (Some files) name)) None) at held
    by_cases true e = let same = eqb-true _ _ e in rw count (read tt (omega arith))
    by_cases false e = tt

pub ruleset piece_laws = (piece-stops, Holds-piece, want-is)
