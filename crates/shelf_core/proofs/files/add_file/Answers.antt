use Rattle.shelf_core.proofs.StoreLaws.{stands-has, belongs-free}
use Rattle.shelf_core.proofs.files.add_file.Goals as goal

-- the name was found
pub returns-in-Ok-clause-exists : goal.returns-in-Ok-clause-exists
returns-in-Ok-clause-exists c exists = stands-has _ _ _ _ c.as_slice.ensures.value c.requires.ascending c.in-Ok.ensures.found

-- no file has the name, so it is in no one's way
pub returns-in_err-copy-clause-in_the_way : goal.returns-in_err-copy-clause-in_the_way
returns-in_err-copy-clause-in_the_way c has = belongs-free _ _ _ _ c.as_slice.ensures.value c.requires.ascending c.in-Err.ensures.free has

pub returns-in_err-added-clause-in_the_way : goal.returns-in_err-added-clause-in_the_way
returns-in_err-added-clause-in_the_way c has = belongs-free _ _ _ _ c.as_slice.ensures.value c.requires.ascending c.in-Err.ensures.free has

pub returns-in_err-map_err-clause-in_the_way : goal.returns-in_err-map_err-clause-in_the_way
returns-in_err-map_err-clause-in_the_way c has = belongs-free _ _ _ _ c.as_slice.ensures.value c.requires.ascending c.in-Err.ensures.free has

pub returns-then-is_err-clause-in_the_way : goal.returns-then-is_err-clause-in_the_way
returns-then-is_err-clause-in_the_way c has = belongs-free _ _ _ _ c.as_slice.ensures.value c.requires.ascending c.in-Err.ensures.free has

pub returns-clause-in_the_way : goal.returns-clause-in_the_way
returns-clause-in_the_way c has = belongs-free _ _ _ _ c.as_slice.ensures.value c.requires.ascending c.in-Err.ensures.free has
