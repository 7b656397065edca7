pub mod PostedTables
