-- The machine that an opening makes, and whole lives of a store.
use Rattle.std.specs.Prelude.{ℕ, false, List, []}
use Rattle.history.specs.declared.log.Version.{Version}
use Rattle.replay.specs.Opened.{Contents, opened}
use Rattle.skippy.specs.Mappings.{end_of}
use Rattle.race_model.specs.Desk.{Desk, Sure, is_written}
use Rattle.race_model.specs.Vault.{Vault}
use Rattle.race_model.specs.Machine.{Machine, Run}
use Rattle.race_model.specs.Images.{AreImagesOf}

abbrev pub opened_desk : Contents → Desk
opened_desk contents = record {
  version = contents.log.version;
  history = opened contents;
  floor = contents.mappings.low;
  past = [];
  rest = contents.log.changes;
  need = end_of contents.mappings;
  acked = end_of contents.mappings;
  pages = contents.pages;
  loose = λ page. false;
  dirty = λ page. is_written page contents.log.changes;
  doubt = Sure;
  stopped = false;
}

-- the Maplog is in records of this version
abbrev pub opened_vault : Version → Contents → Vault
opened_vault version contents = record {
  version = version;
  mappings = contents.mappings;
  others = [];
  laid = end_of contents.mappings;
  slots = contents.slots;
  loose = λ slot. false;
  stopped = false;
}

-- nothing is loose or on its way; pages that the log writes are dirty
abbrev pub opened_machine : Version → Contents → Machine
opened_machine version contents = record {
  desk = opened_desk contents;
  vault = opened_vault version contents;
  batches = [];
  receipts = [];
  pins = [];
  told = [];
}

-- the contents of a store that was just made, its log in records of a version, of these pages and slots
abbrev pub made : Version → ℕ → ℕ → (ℕ → List ℕ) → (ℕ → List ℕ) → Contents
made version page_count capacity pages slots = record {
  log = record {
    version = version;
    base = record {
      page_count = page_count;
      capacity = capacity;
      changes = 0;
      captures = 0;
      marks = [];
      captured = [];
    };
    changes = [];
  };
  pages = pages;
  mappings = record { low = 0; pages = [] };
  slots = slots;
}

-- runs, and crashes after which an image is opened
pub data Life : Machine → Machine → Type 0 where
  Runs : {first last : Machine} → Run first last → Life first last
  Crashes : {first next last : Machine} (contents : Contents) → Life first next → (images : AreImagesOf next contents)
      → Run (opened_machine images.version contents) last → Life first last
