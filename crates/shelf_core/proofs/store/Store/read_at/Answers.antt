use Rattle.shelf_core.proofs.StoreLaws.{read-found, read-missed}
use Rattle.shelf_core.proofs.store.Store.read_at.Goals as goal

-- what was read of the bytes that were found is read of the file
pub returns-in-Some : goal.returns-in-Some
returns-in-Some c = read-found _ _ _ _ _ _ _ _ c.as_slice.ensures.value c.args.self.now.ascending c.in-Some.ensures c.read_from.ensures

-- the file is there
pub returns-in-None : goal.returns-in-None
returns-in-None c = read-missed _ _ _ _ _ _ _ c.as_slice.ensures.value c.args.self.now.ascending c.in-None.ensures c.requires
