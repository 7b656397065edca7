use Rattle.thes_cli.proofs.importing.import_file.Goals as goal

pub returns-clause-imports : goal.returns-clause-imports
returns-clause-imports g c = record {
  file_pipe = c.new-reader.result;
  is_fresh = c.new-reader.ensures.fresh;
  device = c.new-reader.ensures.device;
  file_after = c.import-ended.new.reader;
  result = c.import-ended.result;
  imports = c.import-ended.ensures.ends;
  calls = c.import-ended.ensures.calls;
  ends = c.report_import.ensures;
}
