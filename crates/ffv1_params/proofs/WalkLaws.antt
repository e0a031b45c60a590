-- Readings one after another.
use Rattle.std.proofs.Common.{Result, refl, ap, ◌∙◌}
use Rattle.ffv1_params.specs.declared.error.ParamsWhy.{ParamsWhy}
use Rattle.ffv1_params.specs.declared.error.ParamsWhy.TheVariants as why
use Rattle.ffv1_params.specs.Reading.{Place, Reading, ◌>>=◌, give, refuse, handed_on}
use Rattle.ffv1_params.specs.Walk.{ReaderAt, Leads, Refuses, Fails}

pub leads_on : {A B : Type 0} (a b c : ReaderAt) (first : Reading A) (value : A) (next : A → Reading B) (rest : Reading B) → Leads a b first (give value) → Leads b c (next value) rest → Leads a c (first >>= next) rest
unfolding ◌>>=◌ give
leads_on {A} {B} a b c first value next rest here there = record {
  leads = λ bytes place is_at.
      let came = here.leads bytes place is_at in
      let on = there.leads bytes came.place came.is_at in
      record { place = on.place; is_at = on.is_at; same = ap (λ (read : Result (A × Place) ParamsWhy). handed_on next bytes read) came.same ∙ on.same };
}

pub leads_here : {A : Type 0} (a : ReaderAt) (reading : Reading A) → Leads a a reading reading
leads_here a reading = record { leads = λ bytes place is_at. record { place = place; is_at = is_at; same = refl } }

pub refuses_now : {A B : Type 0} (a : ReaderAt) (first : Reading A) (next : A → Reading B) (w : ParamsWhy) → Refuses a first w → Refuses a (first >>= next) w
unfolding ◌>>=◌
refuses_now {A} {B} a first next w here = record { refuses = λ bytes place is_at. ap (λ (read : Result (A × Place) ParamsWhy). handed_on next bytes read) (here.refuses bytes place is_at) }

pub refuses_later : {A B : Type 0} (a b : ReaderAt) (first : Reading A) (value : A) (next : A → Reading B) (w : ParamsWhy) → Leads a b first (give value) → Refuses b (next value) w → Refuses a (first >>= next) w
unfolding ◌>>=◌ give
refuses_later {A} {B} a b first value next w here there = record {
  refuses = λ bytes place is_at.
      let came = here.leads bytes place is_at in
      ap (λ (read : Result (A × Place) ParamsWhy). handed_on next bytes read) came.same ∙ there.refuses bytes came.place came.is_at;
}

pub refuses_rest : {A : Type 0} (a b : ReaderAt) (reading rest : Reading A) (w : ParamsWhy) → Leads a b reading rest → Refuses b rest w → Refuses a reading w
refuses_rest a b reading rest w here there = record {
  refuses = λ bytes place is_at.
      let came = here.leads bytes place is_at in
      came.same ∙ there.refuses bytes came.place came.is_at;
}

pub leads_rest : {A : Type 0} (a b c : ReaderAt) (reading rest more : Reading A) → Leads a b reading rest → Leads b c rest more → Leads a c reading more
leads_rest a b c reading rest more here there = record {
  leads = λ bytes place is_at.
      let came = here.leads bytes place is_at in
      let on = there.leads bytes came.place came.is_at in
      record { place = on.place; is_at = on.is_at; same = came.same ∙ on.same };
}

pub refuses_it : (A : Type 0) (a : ReaderAt) (w : ParamsWhy) → Refuses {A = A} a (refuse w) w
unfolding refuse
refuses_it A a w = record { refuses = λ bytes place is_at. refl }

-- what holds of each refusal but want of memory
pub fails : {A : Type 0} (a : ReaderAt) (reading : Reading A) (w : ParamsWhy) → Refuses a reading w → Fails a reading w
unfolding Fails
fails a reading why.RecordCrc here = here
fails a reading why.Start here = here
fails a reading why.Symbol here = here
fails a reading why.Version here = here
fails a reading why.Coder here = here
fails a reading why.Colour here = here
fails a reading why.Grid here = here
fails a reading why.Tables here = here
fails a reading why.Contexts here = here
fails a reading why.States here = here
fails a reading why.Ec here = here
fails a reading why.NoMemory here = tt

-- what fails, fails in a longer reading
pub fails_as : {A B : Type 0} (a b : ReaderAt) (reading : Reading A) (longer : Reading B) (w : ParamsWhy) → ((v : ParamsWhy) → Refuses a reading v → Refuses b longer v) → Fails a reading w → Fails b longer w
unfolding Fails
fails_as a b reading longer why.RecordCrc on here = on why.RecordCrc here
fails_as a b reading longer why.Start on here = on why.Start here
fails_as a b reading longer why.Symbol on here = on why.Symbol here
fails_as a b reading longer why.Version on here = on why.Version here
fails_as a b reading longer why.Coder on here = on why.Coder here
fails_as a b reading longer why.Colour on here = on why.Colour here
fails_as a b reading longer why.Grid on here = on why.Grid here
fails_as a b reading longer why.Tables on here = on why.Tables here
fails_as a b reading longer why.Contexts on here = on why.Contexts here
fails_as a b reading longer why.States on here = on why.States here
fails_as a b reading longer why.Ec on here = on why.Ec here
fails_as a b reading longer why.NoMemory on here = tt

pub fails_now : {A B : Type 0} (a : ReaderAt) (first : Reading A) (next : A → Reading B) (w : ParamsWhy) → Fails a first w → Fails a (first >>= next) w
fails_now a first next w = fails_as a a first (first >>= next) w (λ v here. refuses_now a first next v here)

pub fails_later : {A B : Type 0} (a b : ReaderAt) (first : Reading A) (value : A) (next : A → Reading B) (w : ParamsWhy) → Leads a b first (give value) → Fails b (next value) w → Fails a (first >>= next) w
fails_later a b first value next w here = fails_as b a (next value) (first >>= next) w (λ v there. refuses_later a b first value next v here there)

pub fails_rest : {A : Type 0} (a b : ReaderAt) (reading rest : Reading A) (w : ParamsWhy) → Leads a b reading rest → Fails b rest w → Fails a reading w
fails_rest a b reading rest w here = fails_as b a rest reading w (λ v there. refuses_rest a b reading rest v here there)

pub fails_it : (A : Type 0) (a : ReaderAt) (w : ParamsWhy) → Fails {A = A} a (refuse w) w
fails_it A a w = fails a (refuse w) w (refuses_it A a w)

pub ruleset walk_laws = (leads_on, leads_here, fails_now, fails_later, fails_it)
