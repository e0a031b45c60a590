-- What holds of pad forms.
use Rattle.std.specs.Prelude.{◌≡◌, ℕ, ◌<◌, ◌≤◌, ◌^◌, true, List, ◌++◌, length, take, replicate, Some}
use Rattle.std.specs.List.{list_all}
use Rattle.dpx_packing.specs.PadForms.{IsPadForm, Run, is_run, pad_form_len, pad_form_of, pads_read, runs_form, values_form, values_of, zeros_form}

-- the writer's form of a list is read as that list
abbrev pub WrittenPadsAreRead : Type 0
WrittenPadsAreRead = (values : List ℕ) → length values < 2 ^ 32 → pads_read (pad_form_of values) (length values) ≡ Some values

-- and no form of that list is shorter
abbrev pub WrittenFormIsShortest : Type 0
WrittenFormIsShortest = (values form : List ℕ) → pads_read form (length values) ≡ Some values → length (pad_form_of values) ≤ length form

-- each spelling of pads is read, longer ones than the shortest too
abbrev pub ZerosAreRead : Type 0
ZerosAreRead = (count : ℕ) → pads_read zeros_form count ≡ Some (replicate count 0)

abbrev pub RunsAreRead : Type 0
RunsAreRead =
    (runs : List Run) → list_all is_run runs ≡ true → length (values_of runs) < 2 ^ 32 → pads_read (runs_form runs) (length (values_of runs)) ≡ Some (values_of runs)

abbrev pub ValuesAreRead : Type 0
ValuesAreRead = (values : List ℕ) → length values < 2 ^ 32 → pads_read (values_form values) (length values) ≡ Some values

-- ---- whole forms

-- what is spelled is a whole form
abbrev pub SpelledFormsAreWhole : Type 0
SpelledFormsAreWhole = record {
  zeros : IsPadForm zeros_form;
  runs : (runs : List Run) → list_all is_run runs ≡ true → length (values_of runs) < 2 ^ 32 → IsPadForm (runs_form runs);
  values : (values : List ℕ) → length values < 2 ^ 32 → IsPadForm (values_form values);
}

-- the writer's too
abbrev pub WrittenFormsAreWhole : Type 0
WrittenFormsAreWhole = (values : List ℕ) → length values < 2 ^ 32 → IsPadForm (pad_form_of values)

-- and each that is read as pads
abbrev pub FilledFormsAreWhole : Type 0
FilledFormsAreWhole = (form : List ℕ) (count : ℕ) (pads : List ℕ) → pads_read form count ≡ Some pads → IsPadForm form

-- a whole form ends where it does, whatever stands behind it
abbrev pub FormsTellTheirEnds : Type 0
FormsTellTheirEnds = (form rest : List ℕ) → IsPadForm form → pad_form_len (form ++ rest) ≡ Some (length form)

-- the bytes up to the end that is found are a whole form
abbrev pub FormsAreCutWhole : Type 0
FormsAreCutWhole = (bytes : List ℕ) (len : ℕ) → pad_form_len bytes ≡ Some len → (len ≤ length bytes) × IsPadForm (take len bytes)
